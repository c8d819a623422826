-- The uses of a lemma pass lead from a term to a term.
use Rattle.std.proofs.Common.{◌≡◌, ℕ, zero, suc, ◌+◌, ◌≤◌, length, Bool, true, false, if◌then◌else◌, List, [], ◌∷◌, ◌++◌, Option, Some, None, Result, Ok, Err, refl, ap, sym, subst, ◌∙◌, arith}
use Rattle.std.specs.List.{AllByRecursion}
use Rattle.std.specs.Option.{option_or}
use Rattle.std.proofs.lemmas.Option.{same_Some}
use Rattle.circ_term.specs.Tree.{Tree, Trees, Var, App, none, more, list_of, at}
use Rattle.circ_term.proofs.Trees.{trees_of-list_of}
use Rattle.circ_term.specs.Substitution.{Substitution, instance}
use Rattle.circ_term.proofs.Order.{same_here}
use Rattle.circ_theory.specs.Theory.{Theory, Pair, sides}
use Rattle.circ_theory.specs.Fresh.{above}
use Rattle.circ_theory.specs.Goal.{Goal}
use Rattle.circ_theory.specs.declared.way.Way.TheVariants.{Forth}
use Rattle.circ_theory.proofs.Lists.{all_at}
use Rattle.circ_special.specs.declared.place.Place.{Place}
use Rattle.circ_special.specs.Special.{IsSpecial}
use Rattle.circ_proof.specs.Goals.{AreSortedGoals}
use Rattle.circ_rewrite.specs.Matching.{matching, matches}
use Rattle.circ_rewrite.specs.Due.{rule_goal, rule_variables, terms_by, IsRewriteRule}
use Rattle.circ_rewrite.specs.declared.parts.Rule.{Rule}
use Rattle.circ_rewrite.proofs.Linked.{fit_given}
use Rattle.circ_rewrite.proofs.MatchingFacts.{matching-sorts}
use Rattle.circ_rewrite.proofs.RuleTerms.{bound_in_left}
use Rattle.circ_plain_search.specs.BlockRules.{HaveNoConditions, lemma_rule}
use Rattle.circ_plain_search.specs.Joining.{Stop, HypothesisUse, use_with, rule_number, lemma_use, first_lemma, or_inside, is_place, swept, all_swept, and_then, put, put_all, put_counted}
use Rattle.circ_plain_search.proofs.Terms.{Fine, FineTerms, instance_low, args_fine}
use Rattle.circ_plain_search.proofs.PairTerms.{pair_terms, given_fine, left_instance, right_instance}
use Rattle.circ_plain_search.proofs.Rules.{IsLemma}
use Rattle.circ_plain_search.proofs.Special.{place_there, special_deeper, at_deeper}
use Rattle.circ_plain_search.proofs.Uses.{IsUse, UsesLead, same_Ok, row, row_arg, row_next, longer, nothing_leads, one_leads, AfterOne, after_one, first_put, both_lead}

-- a counted pass makes the same replacements, each one rewrite step
pub record Counted (k : ℕ) (t : Tree) (us : List HypothesisUse) (r : Tree × ℕ) : Type 0 where
  pub put : put_all t us ≡ Ok r.0
  pub falls : r.1 + length us ≡ k

pub counted : (k : ℕ) (t : Tree) (us : List HypothesisUse) (r : Tree × ℕ) → put_counted k t us ≡ Ok r → Counted k t us r
counted k t [] r e =
    let it : (t, k) ≡ r = same_Ok (t, k) r e in
    let P : Tree × ℕ → Type 0 = λ x. Counted k t [] x in
    subst P it (record { put = refl; falls = omega arith })
counted zero t (u ∷ us) r e = absurd (cc)
counted (suc k) t (u ∷ us) r e = go (λ v x. counted k v us r x) (put t u) refl e
  where
    go : ((v : Tree) → put_counted k v us ≡ Ok r → Counted k v us r) → (p : Result Tree Stop) → put t u ≡ p
        → and_then p (λ v. put_counted k v us) ≡ Ok r → Counted (suc k) t (u ∷ us) r
    go ih (Ok v) p x = let c = ih v x in record { put = rw p c.put; falls = omega (arith, c.falls) }
    go ih (Err s) p x = absurd (cc)

module _ (th : Theory) (m : ℕ) (H : List Goal) (bare : HaveNoConditions H) (q : List ℕ) (a : Tree) (f : Fine th m a) where
  lemma_is : (r : Rule) (u : HypothesisUse) → IsLemma H r → lemma_use r q a ≡ Some u → IsUse th m H q a u.new u
  lemma_is r u l e = go (matches r.left a) refl e
    where
      σ : Substitution
      σ = matching r.left a

      new : HypothesisUse
      new = use_with (rule_number r.name) Forth q (terms_by (matching r.left a) (rule_variables r)) (instance (matching r.left a) r.right)

      p : Pair
      p = sides l.hypothesis

      plain : l.hypothesis.conds ≡ []
      plain = all_at (λ g. g.conds ≡ []) H l.number l.hypothesis bare l.listed

      -- the same of the rule as it is
      is_used : (x : Rule) → r ≡ x → x ≡ lemma_rule l.number l.hypothesis → IsRewriteRule x → instance (matching x.left a) x.left ≡ a
          → IsUse th m H q a (instance (matching x.left a) x.right)
          (use_with (rule_number x.name) Forth q (terms_by (matching x.left a) (rule_variables x)) (instance (matching x.left a) x.right))
      is_used x _ is ok made =
          let left : (n s : ℕ) → _ → Fine th m (matching x.left a n s) = given_fine th m (matching x.left a) x.left a made f in
          let low = instance_low m (matching x.left a) x.right (λ n s h. (left n s (bound_in_left x ok n s h)).low) in
          let P : Rule → Type 0 = λ y. IsUse th m H q a (instance (matching y.left a) y.right)
          (use_with (rule_number y.name) Forth q (terms_by (matching y.left a) (rule_variables y)) (instance (matching y.left a) y.right)) in
          let T : Rule → Type 0 = λ y. FineTerms th m (terms_by (matching y.left a) (rule_variables y)) in
          let L : Rule → Type 0 = λ y. instance (matching y.left a) y.left ≡ a in
          let terms : FineTerms th m (terms_by (matching x.left a) (rule_variables x))
          = pair_terms (Fine th m) (rule_goal x) (ap (λ y. y.conds) is ∙ plain) (matching x.left a) left (λ n s h. left n s (bound_in_left x ok n s h)) in
          let W : Rule → Type 0 = λ y. above (instance (matching y.left a) y.right) ≤ m in
          subst P (sym is) (record {
            hypothesis = l.hypothesis;
            listed = l.listed;
            path = refl;
            conds = refl;
            fit = fit_given (matching p.left a) (matching-sorts p.left a) _;
            old = left_instance l.hypothesis plain (matching p.left a) ∙ subst L is made;
            made = right_instance l.hypothesis plain (matching p.left a);
            new = refl;
            terms = subst T is terms;
            low = subst W is low;
          })

      go : (v : Bool) → matches r.left a ≡ v → (if v then Some new else None) ≡ Some u → IsUse th m H q a u.new u
      go false g x = absurd (cc)
      go true g x =
          let P : HypothesisUse → Type 0 = λ y. IsUse th m H q a y.new y in
          subst P (same_Some new u x) (is_used r refl l.is l.rewrites (same_here (instance (matching r.left a) r.left) a g))

  first_lemma_is : (L : List Rule) (u : HypothesisUse) → AllByRecursion (IsLemma H) L → first_lemma L q a ≡ Some u → IsUse th m H q a u.new u
  first_lemma_is [] u all e = absurd (cc)
  first_lemma_is (r ∷ rs) u all e = go (lemma_use r q a) refl e (first_lemma_is rs u all.1)
    where
      go : (o : Option HypothesisUse) → lemma_use r q a ≡ o → option_or o (first_lemma rs q a) ≡ Some u → (first_lemma rs q a ≡ Some u → IsUse th m H q a u.new u)
          → IsUse th m H q a u.new u
      go (Some v) g x ih = lemma_is r u all.0 (g ∙ x)
      go None g x ih = ih x

-- A pass leads to the term in which new stands at the path.
pub record PassLeads (th : Theory) (m : ℕ) (G : List Place) (H : List Goal) (us : List HypothesisUse) (q : List ℕ) (t u : Tree) : Type 0 where
  pub new : Tree
  pub lead : UsesLead th m G H us q new t u

-- the same for the arguments from a place on
record RowLeads (th : Theory) (m : ℕ) (G : List Place) (H : List Goal) (us : List HypothesisUse) (f s : ℕ) (front : List Tree) (q : List ℕ) (t u : Tree) : Type 0 where
  args : Trees
  lead : UsesLead th m G H us q (row f s front args) t u

module _ (th : Theory) (m : ℕ) (G : List Place) (H : List Goal) (sorted : AreSortedGoals th H) (bare : HaveNoConditions H) (L : List Rule) (lemmas : AllByRecursion (IsLemma H) L) where
  -- a pass that stops at a term, or goes on to its arguments
  at_term : (a : Tree) (q : List ℕ) (t u : Tree) (inside : List HypothesisUse) → Fine th m t → Fine th m a → at t q ≡ Some a → IsSpecial G t q
      → (put_all t inside ≡ Ok u → PassLeads th m G H inside q t u) → put_all t (or_inside (first_lemma L q a) inside) ≡ Ok u
      → PassLeads th m G H (or_inside (first_lemma L q a) inside) q t u
  at_term a q t u inside ft fa there special ih p = go (first_lemma L q a) refl p
    where
      go : (o : Option HypothesisUse) → first_lemma L q a ≡ o → put_all t (or_inside o inside) ≡ Ok u → PassLeads th m G H (or_inside o inside) q t u
      go (Some x) e z = record {
        new = x.new;
        lead = one_leads th m G H sorted bare (x ∷ []) q a x.new t u x ft (first_lemma_is th m H bare q a fa L x lemmas e) there special refl z;
      }
      go None e z = ih z

  mutual
    pub swept_leads : (a : Tree) (q : List ℕ) (t u : Tree) → Fine th m t → Fine th m a → at t q ≡ Some a → IsSpecial G t q
        → put_all t (swept G L q a) ≡ Ok u → PassLeads th m G H (swept G L q a) q t u
    swept_leads (Var n s) q t u ft fa there special p =
        at_term (Var n s) q t u [] ft fa there special
        (λ z. record { new = Var n s; lead = nothing_leads th m G H sorted bare [] q (Var n s) t u ft there refl z }) p
    swept_leads (App f s ts) q t u ft fa there special p =
        at_term (App f s ts) q t u (all_swept G L f q 0 ts) ft fa there special
        (λ z. let r = all_swept_leads ts f s [] q 0 t u ft (args_fine th m f s ts fa) refl
        (there ∙ ap (λ l. Some (App f s l)) (sym (trees_of-list_of ts))) special z in record { new = row f s [] r.args; lead = r.lead }) p

    all_swept_leads : (ts : Trees) (f s : ℕ) (front : List Tree) (q : List ℕ) (i : ℕ) (t u : Tree) → Fine th m t → FineTerms th m (list_of ts)
        → i ≡ length front → at t q ≡ Some (row f s front ts) → IsSpecial G t q → put_all t (all_swept G L f q i ts) ≡ Ok u
        → RowLeads th m G H (all_swept G L f q i ts) f s front q t u
    all_swept_leads none f s front q i t u ft fa n there special p =
        record { args = none; lead = nothing_leads th m G H sorted bare [] q (row f s front none) t u ft there refl p }
    all_swept_leads (more a ts) f s front q i t u ft fa n there special p =
        go (λ w here sp x. swept_leads a (q ++ length front ∷ []) t w ft fa.0 here sp x)
        (λ w b fw x y z. all_swept_leads ts f s (front ++ b ∷ []) q (i + 1) w u fw fa.1 (ap (λ k. k + 1) n ∙ sym (longer front b)) x y z)
        (is_place G f i) refl p
      where
        rest : List HypothesisUse
        rest = all_swept G L f q (i + 1) ts

        go : ((w : Tree) → at t (q ++ length front ∷ []) ≡ Some a → IsSpecial G t (q ++ length front ∷ []) → put_all t (swept G L (q ++ length front ∷ []) a) ≡ Ok w
            → PassLeads th m G H (swept G L (q ++ length front ∷ []) a) (q ++ length front ∷ []) t w)
            → ((w b : Tree) → Fine th m w → at w q ≡ Some (row f s (front ++ b ∷ []) ts) → IsSpecial G w q → put_all w rest ≡ Ok u
            → RowLeads th m G H rest f s (front ++ b ∷ []) q w u)
            → (v : Bool) → is_place G f i ≡ v → put_all t ((if v then swept G L (q ++ i ∷ []) a else []) ++ rest) ≡ Ok u
            → RowLeads th m G H ((if v then swept G L (q ++ i ∷ []) a else []) ++ rest) f s front q t u
        go one later true v z =
            let us : List HypothesisUse = swept G L (q ++ length front ∷ []) a in
            let P : ℕ → Type 0 = λ k. put_all t (swept G L (q ++ k ∷ []) a ++ rest) ≡ Ok u in
            let g = place_there G f (length front) (ap (is_place G f) (sym n) ∙ v) in
            let e = subst P n z in
            let w = first_put th m G H sorted bare us rest t u e in
            let one_led = one w.0 (at_deeper q t f s _ (length front) a there (row_arg front a ts))
            (special_deeper G q t f s _ (length front) a special there g (row_arg front a ts)) w.1 in
            let b : Tree = one_led.new in
            let Q : Tree → Type 0 = λ y. UsesLead th m G H us (q ++ length front ∷ []) b t y in
            let x : AfterOne th m G H sorted bare us rest q f s front b ts t u
            = after_one th m G H sorted bare us rest q f s front a b ts t u there special e (λ y d. subst Q (same_Ok w.0 y (sym w.1 ∙ d)) one_led.lead) in
            let r = later x.w b x.first.led.fine x.there x.special x.last in
            let M : Tree → Type 0 = λ y. UsesLead th m G H rest q y x.w u in
            let R : ℕ → Type 0 = λ k. RowLeads th m G H (swept G L (q ++ k ∷ []) a ++ rest) f s front q t u in
            subst R (sym n) (record {
              args = more b r.args;
              lead = both_lead th m G H sorted bare us rest q f s front b ts t u (row f s front (more b r.args)) x (subst M (row_next f s front b r.args) r.lead);
            })
        go one later false v z =
            let r = later t a ft (there ∙ ap Some (sym (row_next f s front a ts))) special z in
            let P : Tree → Type 0 = λ y. UsesLead th m G H rest q y t u in
            record { args = more a r.args; lead = subst P (row_next f s front a r.args) r.lead }
