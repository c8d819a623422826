-- The uses of a lemma pass lead from a term to a term.
use Rattle.std.proofs.Common.{◌≡◌, ◌⊎◌, inl, inr, ℕ, zero, suc, ◌+◌, length, Bool, true, false, if◌then◌else◌, List, [], ◌∷◌, ◌++◌, Option, Some, None, Ok, refl, ap, sym, subst, ◌∙◌, arith, append_assoc, append-nil}
use Rattle.std.specs.List.{slice_get, AllByRecursion}
use Rattle.circ_term.specs.Tree.{Tree, Trees, Var, App, none, more, list_of, at}
use Rattle.circ_term.proofs.Trees.{trees_of-list_of}
use Rattle.circ_term.specs.Substitution.{Substitution, instance}
use Rattle.circ_term.proofs.Order.{same_here}
use Rattle.circ_theory.specs.Theory.{Theory}
use Rattle.circ_theory.specs.Variables.{sorted, variables_of}
use Rattle.circ_theory.specs.declared.way.Way.TheVariants.{Forth}
use Rattle.circ_theory.proofs.Lists.{all_at}
use Rattle.circ_special.specs.Special.{IsSpecial}
use Rattle.circ_rewrite.specs.Matching.{matching, matches}
use Rattle.circ_rewrite.specs.Due.{terms_by, IsRewriteRule}
use Rattle.circ_rewrite.proofs.Linked.{fit_given, matching_substitution}
use Rattle.circ_rewrite.proofs.RuleTerms.{bound_in_left}
use Rattle.circ_rewrite.proofs.MatchingFacts.{matching-sorts}
use Rattle.circ_plain_search.specs.Joining.{is_place, HypothesisUse, put_in, within_or}
use Rattle.circ_plain_search.proofs.Terms.{Fine, FineTerms, instance_low, args_fine}
use Rattle.circ_plain_search.proofs.PairTerms.{given_fine}
use Rattle.circ_plain_search.proofs.Special.{place_there, special_deeper, at_deeper}
use Rattle.circ_plain_search.proofs.Uses.{row, row_arg, row_next, longer}
use Rattle.circ_theory.specs.Goal.{Goal}
use Rattle.circ_proof.specs.Link.{Setting}
use Rattle.circ_rewrite.specs.declared.parts.Rule.{Rule}
use Rattle.circ_rewrite.specs.Replacement.{Passes}
use Rattle.circ_conditional_norm.specs.Work.{Work, Made, Out, Past, map_found}
use Rattle.circ_conditional_norm.specs.Tries.{Normaliser, tried}
use Rattle.circ_conditional_norm.proofs.Working.{found_map, found_next, found_limit}
use Rattle.circ_conditional_norm.proofs.Given.{gives_back}
use Rattle.circ_conditional_norm.proofs.Linked.{IsLinking, holds_lead, lead_same, all_sorted}
use Rattle.circ_plain_search.specs.BlockRules.{lemma_rule}
use Rattle.circ_conditional_search.specs.Joining.{work_then, use_passing, put_limit, Swept, swept_with, put_swept, swept_or_inside, lemma_use_trying, first_lemma_trying, swept_trying, all_swept_trying}
use Rattle.circ_conditional_search.proofs.GoalTerms.{OfTerm, all_terms}
use Rattle.circ_plain_search.proofs.Rules.{IsLemma}
use Rattle.circ_conditional_search.proofs.Nesting.{IsNesting, holds_nest}
use Rattle.circ_conditional_search.proofs.Normals.{IsFining, low_pairs, holds_fine, conds_bound}
use Rattle.circ_conditional_search.proofs.Derived.{FineGoal, FineGoals, are_conditions, goals_sorted}
use Rattle.circ_conditional_search.proofs.Uses.{IsUse, UsesLead, use_leads, no_use, beyond, both_lead}

-- what a use that is put into the whole term does
pub record IsPut (w : Swept) (u : HypothesisUse) (k : ℕ) (v : Swept) (l : ℕ) : Type 0 where
  pub put : within_or (put_limit w.whole u) (put_in w.whole u) ≡ Ok v.whole
  pub uses : v.uses ≡ w.uses ++ u ∷ []
  pub less : l + 1 ≡ k

pub is_put : (w : Swept) (u : HypothesisUse) (k : ℕ) (v : Swept) (l : ℕ) → put_swept w u k ≡ Made v l → IsPut w u k v l
is_put w u zero v l e = absurd (cc)
is_put w u (suc k) v l e =
    let r = found_limit (put_limit w.whole u) (suc k) (Made (swept_with (put_in w.whole u) (w.uses ++ u ∷ [])) k) v l e in
    let is : swept_with (put_in w.whole u) (w.uses ++ u ∷ []) ≡ v = same_value _ v k l r.1 in
    let left : k ≡ l = same_left (swept_with (put_in w.whole u) (w.uses ++ u ∷ [])) v k l r.1 in
    record { put = rw r.0 (ap (λ x. Ok x.whole) is); uses = ap (λ x. x.uses) (sym is); less = omega (arith, left) }
  where
    same_value : (a b : Swept) (i j : ℕ) → Made a i ≡ Made b j → a ≡ b
    same_value a b i j z = cc

    same_left : (a b : Swept) (i j : ℕ) → Made a i ≡ Made b j → i ≡ j
    same_left a b i j z = cc

module _ (c : Setting) (m : ℕ) (fine : FineGoals c.theory m c.hypotheses) (f : Normaliser) (links : IsLinking c f) (fining : IsFining c.theory m f) (nest : IsNesting 7 f) where
  abbrev th : Theory
  th = c.theory

  module _ (q : List ℕ) (a : Tree) (fa : Fine th m a) where
    -- a hypothesis as a lemma
    pub lemma_here : (n : ℕ) (h : Goal) → slice_get c.hypotheses n ≡ Some h → IsRewriteRule (lemma_rule n h) → (k : ℕ) (u : HypothesisUse) (l : ℕ)
        → lemma_use_trying f (lemma_rule n h) q a k ≡ Made (Some u) l → IsUse c m q a u.new u
    lemma_here n h there ok k u l e = go (matches h.left a) refl e
      where
        σ : Substitution
        σ = matching h.left a

        new : Passes → HypothesisUse
        new cs = use_passing n Forth q (terms_by σ (sorted (variables_of h))) cs (instance σ h.right)

        go : (v : Bool) → matches h.left a ≡ v → (if v then map_found new (tried (Some f) σ h.conds k) else Made None k) ≡ Made (Some u) l → IsUse c m q a u.new u
        go false g x = absurd (cc)
        go true g x =
            let r = found_map new (tried (Some f) σ h.conds k) u l x in
            let is : instance σ h.left ≡ a = same_here (instance σ h.left) a g in
            let good = all_at (FineGoal th m) c.hypotheses n h fine there in
            let left : OfTerm (λ i s. Fine th m (σ i s)) h.left = λ i s y. given_fine th m σ h.left a is fa i s y in
            let right : OfTerm (λ i s. Fine th m (σ i s)) h.right = λ i s y. left i s (bound_in_left (lemma_rule n h) ok i s y) in
            let vars = conds_bound (lemma_rule n h) ok (λ i s. Fine th m (σ i s)) left in
            let s = matching_substitution th.signature h.left a fa.sorted in
            let sorted_conds = all_sorted th h.conds (are_conditions th m h.conds good.conds) in
            let back = gives_back h σ in
            subst (λ y. IsUse c m q a y.new y) r.2 (record {
              hypothesis = h;
              listed = there;
              path = refl;
              fit = fit_given σ (matching-sorts h.left a) (sorted (variables_of h));
              old = back.left ∙ is;
              made = back.right;
              new = refl;
              terms = all_terms (Fine th m) h σ left right vars;
              low = instance_low m σ h.right (λ i s y. (right i s y).low);
              holds = lead_same c σ _ h.conds r.0 back.conds (holds_lead c (Some f) links σ s h.conds sorted_conds k r.0 l r.1);
              chains = holds_fine th m (Some f) fining σ h.conds (low_pairs th m σ s h.conds sorted_conds vars) k r.0 l r.1;
              nests = holds_nest 7 f nest σ h.conds k r.0 l r.1;
            })

    lemma_is : (r : Rule) (k : ℕ) (u : HypothesisUse) (l : ℕ) → IsLemma c.hypotheses r → lemma_use_trying f r q a k ≡ Made (Some u) l → IsUse c m q a u.new u
    lemma_is r k u l i e =
        lemma_here i.number i.hypothesis i.listed (subst IsRewriteRule i.is i.rewrites) k u l (ap (λ y. lemma_use_trying f y q a k) (sym i.is) ∙ e)

    pub first_lemma_is : (L : List Rule) (k : ℕ) (u : HypothesisUse) (l : ℕ) → AllByRecursion (IsLemma c.hypotheses) L → first_lemma_trying f L q a k ≡ Made (Some u) l
        → IsUse c m q a u.new u
    first_lemma_is [] k u l all e = absurd (cc)
    first_lemma_is (r ∷ rs) k u l all e = go (found_next (lemma_use_trying f r q a k) (first_lemma_trying f rs q a) u l e) (λ j x. first_lemma_is rs j u l all.1 x)
      where
        go : (lemma_use_trying f r q a k ≡ Made (Some u) l) ⊎ ((j : ℕ) × (lemma_use_trying f r q a k ≡ Made None j) × (first_lemma_trying f rs q a j ≡ Made (Some u) l))
            → ((j : ℕ) → first_lemma_trying f rs q a j ≡ Made (Some u) l → IsUse c m q a u.new u) → IsUse c m q a u.new u
        go (inl x) ih = lemma_is r k u l all.0 x
        go (inr x) ih = ih x.0 x.2

  -- A pass leads to the term in which new stands at the path.
  pub record PassLeads (q : List ℕ) (w v : Swept) : Type 0 where
    pub new : Tree
    pub made : List HypothesisUse
    pub uses : v.uses ≡ w.uses ++ made
    pub lead : UsesLead c m made q new w.whole v.whole

  -- the same for the arguments from a place on
  record RowPass (g s : ℕ) (front : List Tree) (q : List ℕ) (w v : Swept) : Type 0 where
    args : Trees
    made : List HypothesisUse
    uses : v.uses ≡ w.uses ++ made
    lead : UsesLead c m made q (row g s front args) w.whole v.whole

  module _ (L : List Rule) (lemmas : AllByRecursion (IsLemma c.hypotheses) L) where
    abbrev sweep : (q : List ℕ) → Tree → Swept → (budget : ℕ) → Work Swept
    sweep = swept_trying f c.places L

    abbrev sweep_all : (g : ℕ) → (q : List ℕ) → (i : ℕ) → Trees → Swept → (budget : ℕ) → Work Swept
    sweep_all = all_swept_trying f c.places L

    same_swept : (w v : Swept) (k l : ℕ) → Made w k ≡ Made v l → w ≡ v
    same_swept w v k l e = cc

    stays : (q : List ℕ) (a : Tree) (w v : Swept) → Fine th m w.whole → at w.whole q ≡ Some a → w ≡ v → PassLeads q w v
    stays q a w v fw there e =
        subst (PassLeads q w) e
        (record { new = a; made = []; uses = sym (append-nil w.uses); lead = no_use c m (goals_sorted th m c.hypotheses fine) q a w.whole fw there })

    -- a pass that stops at a term, or goes on to its arguments
    at_term : (a : Tree) (q : List ℕ) (w v : Swept) (k l : ℕ) (inside : ℕ → Work Swept) → Fine th m w.whole → Fine th m a → at w.whole q ≡ Some a
        → IsSpecial c.places w.whole q → ((j : ℕ) → inside j ≡ Made v l → PassLeads q w v) → swept_or_inside w (first_lemma_trying f L q a k) inside ≡ Made v l → PassLeads q w v
    at_term a q w v k l inside fw fa there special ih p = go (first_lemma_trying f L q a k) refl p
      where
        go : (o : Work (Option HypothesisUse)) → first_lemma_trying f L q a k ≡ o → swept_or_inside w o inside ≡ Made v l → PassLeads q w v
        go (Made (Some x) j) e z =
            let r = is_put w x j v l z in
            let u = first_lemma_is q a fa L k x j lemmas e in
            record { new = x.new; made = x ∷ []; uses = r.uses; lead = use_leads c m (goals_sorted th m c.hypotheses fine) q a x.new x w.whole v.whole u fw there special r.put }
        go (Made None j) e z = ih j z
        go Out e z = absurd (cc)
        go (Past y j) e z = absurd (cc)

    mutual
      pub swept_leads : (a : Tree) (q : List ℕ) (w v : Swept) (k l : ℕ) → Fine th m w.whole → Fine th m a → at w.whole q ≡ Some a → IsSpecial c.places w.whole q
          → sweep q a w k ≡ Made v l → PassLeads q w v
      swept_leads (Var n s) q w v k l fw fa there special p =
          at_term (Var n s) q w v k l (Made w) fw fa there special (λ j z. stays q (Var n s) w v fw there (same_swept w v j l z)) p
      swept_leads (App g s ts) q w v k l fw fa there special p =
          at_term (App g s ts) q w v k l (sweep_all g q 0 ts w) fw fa there special
          (λ j z. let r = all_swept_leads ts g s [] q 0 w v j l fw (args_fine th m g s ts fa) refl
          (there ∙ ap (λ y. Some (App g s y)) (sym (trees_of-list_of ts))) special z in record { new = row g s [] r.args; made = r.made; uses = r.uses; lead = r.lead }) p

      all_swept_leads : (ts : Trees) (g s : ℕ) (front : List Tree) (q : List ℕ) (i : ℕ) (w v : Swept) (k l : ℕ) → Fine th m w.whole → FineTerms th m (list_of ts)
          → i ≡ length front → at w.whole q ≡ Some (row g s front ts) → IsSpecial c.places w.whole q → sweep_all g q i ts w k ≡ Made v l → RowPass g s front q w v
      all_swept_leads none g s front q i w v k l fw fa n there special p =
          let r = stays q (row g s front none) w v fw there (same_swept w v k l p) in
          subst (RowPass g s front q w) (same_swept w v k l p)
          (record { args = none; made = []; uses = sym (append-nil w.uses); lead = no_use c m (goals_sorted th m c.hypotheses fine) q (row g s front none) w.whole fw there })
      all_swept_leads (more a ts) g s front q i w v k l fw fa n there special p =
          go (λ x j here sp y. swept_leads a (q ++ length front ∷ []) w x k j fw fa.0 here sp y)
          (λ x b j fx y z e. all_swept_leads ts g s (front ++ b ∷ []) q (i + 1) x v j l fx fa.1 (ap (λ d. d + 1) n ∙ sym (longer front b)) y z e)
          (is_place c.places g i) refl p
        where
          go : ((x : Swept) (j : ℕ) → at w.whole (q ++ length front ∷ []) ≡ Some a → IsSpecial c.places w.whole (q ++ length front ∷ [])
              → sweep (q ++ length front ∷ []) a w k ≡ Made x j → PassLeads (q ++ length front ∷ []) w x)
              → ((x : Swept) (b : Tree) (j : ℕ) → Fine th m x.whole → at x.whole q ≡ Some (row g s (front ++ b ∷ []) ts) → IsSpecial c.places x.whole q
              → sweep_all g q (i + 1) ts x j ≡ Made v l → RowPass g s (front ++ b ∷ []) q x v)
              → (d : Bool) → is_place c.places g i ≡ d
              → work_then (if d then sweep (q ++ i ∷ []) a w k else Made w k) (λ x j. sweep_all g q (i + 1) ts x j) ≡ Made v l → RowPass g s front q w v
          go one later false d z =
              let r = later w a k fw (there ∙ ap Some (sym (row_next g s front a ts))) special z in
              record { args = more a r.args; made = r.made; uses = r.uses; lead = subst (λ y. UsesLead c m r.made q y w.whole v.whole) (row_next g s front a r.args) r.lead }
          go one later true d z = inner (sweep (q ++ i ∷ []) a w k) refl z
            where
              inner : (o : Work Swept) → sweep (q ++ i ∷ []) a w k ≡ o → work_then o (λ x j. sweep_all g q (i + 1) ts x j) ≡ Made v l → RowPass g s front q w v
              inner Out e y = absurd (cc)
              inner (Past b j) e y = absurd (cc)
              inner (Made x j) e y =
                  let at_place = place_there c.places g (length front) (ap (is_place c.places g) (sym n) ∙ d) in
                  let first = one x j (at_deeper q w.whole g s _ (length front) a there (row_arg front a ts))
                  (special_deeper c.places q w.whole g s _ (length front) a special there at_place (row_arg front a ts))
                  (ap (λ h. sweep (q ++ h ∷ []) a w k) (sym n) ∙ e) in
                  let b : Tree = first.new in
                  let step = beyond c m (goals_sorted th m c.hypotheses fine) first.made q g s front a b ts w.whole x.whole there special first.lead in
                  let rest = later x b j first.lead.led.fine step.there step.special y in
                  record {
                    args = more b rest.args;
                    made = first.made ++ rest.made;
                    uses = rest.uses ∙ ap (λ h. h ++ rest.made) first.uses ∙ append_assoc w.uses first.made rest.made;
                    lead = both_lead c m (goals_sorted th m c.hypotheses fine) first.made rest.made q g s front b ts w.whole x.whole v.whole (row g s front (more b rest.args)) step
                        (subst (λ h. UsesLead c m rest.made q h x.whole v.whole) (row_next g s front b rest.args) rest.lead);
                  }
