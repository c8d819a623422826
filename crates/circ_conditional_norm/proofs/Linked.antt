-- What is due is what a link asks, and keeps terms well-sorted; and so the traces of normal forms are links.
use Rattle.std.proofs.Common.{◌≡◌, ◌⊎◌, inl, inr, ℕ, ◌+◌, zero, suc, Bool, true, false, ◌==◌, ◌&&◌, if◌then◌else◌, List, [], ◌∷◌, ◌++◌, map, Option, Some, None, refl, ap, sym, subst, ◌∙◌, arith, append_assoc, append-nil}
use Rattle.std.specs.List.{AllByRecursion}
use Rattle.std.specs.Option.{option_or, option_map_or}
use Rattle.std.proofs.lemmas.Option.{same_Some}
use Rattle.circ_term.specs.Tree.{Tree, Var, App, sort_of, at, replaced}
use Rattle.circ_term.specs.Limits.{Limit, first_limit, or_else, IsWithinLimits}
use Rattle.circ_term.specs.Order.{is_same}
use Rattle.circ_term.specs.Substitution.{Substitution, instance}
use Rattle.circ_term.proofs.Order.{same_here}
use Rattle.circ_term.proofs.Paths.{replaced_there}
use Rattle.circ_theory.specs.Signature.{Signature, IsWellSorted, IsSubstitution}
use Rattle.circ_theory.specs.Theory.{Theory, Pair, IsWellSortedPair, AreConditions}
use Rattle.circ_theory.specs.declared.way.Way.TheVariants.{Forth}
use Rattle.circ_theory.proofs.Lists.{all_at}
use Rattle.circ_theory.proofs.Instances.{sort_of-instance_by, instance_well_sorted}
use Rattle.circ_theory.proofs.Casing.{contains_next, contains_first}
use Rattle.circ_theory.proofs.Sorting.{KeepsSort, at_sorted, replaced_sorted}
use Rattle.circ_aci.specs.Content.{HasContentOf}
use Rattle.circ_aci.specs.Canonical.{canonical_under}
use Rattle.circ_aci.proofs.Again.{is_canonical}
use Rattle.circ_proof.specs.Runs.{Runs}
use Rattle.circ_rewrite.specs.Matching.{matching, matches}
use Rattle.circ_rewrite.specs.Due.{terms_by, assumed, content_due, rule_variables, rule_goal}
use Rattle.circ_rewrite.specs.declared.parts.RuleName.{RuleName}
use Rattle.circ_rewrite.specs.declared.parts.RuleName.TheVariants as name
use Rattle.circ_rewrite.proofs.MatchingFacts.{matching-sorts}
use Rattle.circ_rewrite.proofs.Linked.{fit_given, matching_substitution, assumed_is}
use Rattle.circ_theory.specs.Rewriting.{by_terms, RewritesBy}
use Rattle.circ_theory.specs.WellFormed.{IsWellFormed}
use Rattle.circ_theory.specs.Goal.{Goal}
use Rattle.circ_proof.specs.Link.{Setting, Leads, RowLeads, ConditionsLead}
use Rattle.circ_rewrite.specs.Links.{link_by, link_of, row_by, chains_by, IsNamed, IsRuleOf, AreLinks}
use Rattle.circ_rewrite.specs.Norm.{Normalised, Normal_form, Budget_spent, Limit_passed}
use Rattle.circ_rewrite.specs.Replacement.{Passes, no_pass, more_passes, Replacement, Placed, Traced, traced, By_rule, By_assumption, By_content, trace_row}
use Rattle.circ_rewrite.specs.declared.parts.Rule.{Rule}
use Rattle.circ_conditional_norm.specs.Norm.{look_from, looked, make, run_from, inner_norm, norm_with_room}
use Rattle.circ_conditional_norm.specs.Tries.{rule_replaces, Normaliser, same_forms, conditions_hold, tried, rule_tried, rules_tried, due_trying}
use Rattle.circ_conditional_norm.specs.Work.{Work, Made, Out, Past, map_found, normal_then}
use Rattle.circ_conditional_norm.proofs.Working.{found_map, found_next, found_limit, both_none, same_found}
use Rattle.circ_conditional_norm.proofs.Looking.{IsDueAt, look_from_there}
use Rattle.circ_conditional_norm.proofs.Given.{MakeSame, gives_back}

-- ---- conditions that hold

row_leads : (c : Setting) (ts : List Traced) (t u : Tree) → Runs (Leads c) (map link_of ts) t u → RowLeads c (row_by (trace_row ts)) t u
row_leads c [] t u e = e
row_leads c (tr ∷ ts) t u h = (h.0, h.1, row_leads c ts h.0 u h.2)

-- conditions lead under a substitution that makes the same of them
pub lead_same : (c : Setting) (σ τ : Substitution) (ps : List Pair) (cs : Passes) → MakeSame τ σ ps → ConditionsLead c σ ps (chains_by cs) → ConditionsLead c τ ps (chains_by cs)
lead_same c σ τ [] no_pass m h = h
lead_same c σ τ [] (more_passes l r cs) m h = h
lead_same c σ τ (p ∷ ps) no_pass m h = h
lead_same c σ τ (p ∷ ps) (more_passes l r cs) m h = (
  ap first_limit m.0.0 ∙ h.0,
  ap first_limit m.0.1 ∙ h.1,
  (h.2.0, subst (λ x. RowLeads c (row_by l) x h.2.0) (sym m.0.0) h.2.1, subst (λ x. RowLeads c (row_by r) x h.2.0) (sym m.0.1) h.2.2),
  lead_same c σ τ ps cs m.1 h.3,
)

-- the traces that a normaliser gives are links
abbrev pub IsLinking : Setting → Normaliser → Type 0
IsLinking c f = (k : ℕ) (t u : Tree) (ts : List Traced) (l : ℕ) → IsWellSorted c.theory.signature t → f k t ≡ Normal_form u ts l → AreLinks c ts t u

-- so does what stands for one
abbrev pub AreLinking : Setting → Option Normaliser → Type 0
AreLinking c None = Unit {0}
AreLinking c (Some f) = IsLinking c f

-- both sides of a condition came to one term
pub record HeldBy (f : Normaliser) (a b : Tree) (k : ℕ) (rest : ℕ → Work (Option Passes)) (cs : Passes) (l : ℕ) : Type 0 where
  pub same : Tree
  pub left_traces : List Traced
  pub right_traces : List Traced
  pub between : ℕ
  pub after : ℕ
  pub left : f k a ≡ Normal_form same left_traces between
  pub right : f between b ≡ Normal_form same right_traces after
  pub passes : Passes
  pub later : rest after ≡ Made (Some passes) l
  pub is : more_passes (trace_row left_traces) (trace_row right_traces) passes ≡ cs

pub held_by : (f : Normaliser) (a b : Tree) (k : ℕ) (rest : ℕ → Work (Option Passes)) (cs : Passes) (l : ℕ) → same_forms f a b k rest ≡ Made (Some cs) l → HeldBy f a b k rest cs l
held_by f a b k rest cs l e = first (f k a) refl e
  where
    third : (x : Tree) (ts : List Traced) (m : ℕ) → f k a ≡ Normal_form x ts m → (y : Tree) (us : List Traced) (n : ℕ) → f m b ≡ Normal_form y us n
        → (q : Bool) → is_same x y ≡ q → (if q then map_found (more_passes (trace_row ts) (trace_row us)) (rest n) else Made None n) ≡ Made (Some cs) l
        → HeldBy f a b k rest cs l
    third x ts m g y us n h false s z = absurd (cc)
    third x ts m g y us n h true s z =
        let p = found_map (more_passes (trace_row ts) (trace_row us)) (rest n) cs l z in
        record {
          same = x;
          left_traces = ts;
          right_traces = us;
          between = m;
          after = n;
          left = g;
          right = h ∙ ap (λ v. Normal_form v us n) (sym (same_here x y s));
          passes = p.0;
          later = p.1;
          is = p.2;
        }

    second : (x : Tree) (ts : List Traced) (m : ℕ) → f k a ≡ Normal_form x ts m → (w : Normalised) → f m b ≡ w
        → normal_then w (λ y us n. if is_same x y then map_found (more_passes (trace_row ts) (trace_row us)) (rest n) else Made None n) ≡ Made (Some cs) l
        → HeldBy f a b k rest cs l
    second x ts m g (Normal_form y us n) h z = third x ts m g y us n h (is_same x y) refl z
    second x ts m g Budget_spent h z = absurd (cc)
    second x ts m g (Limit_passed q n) h z = absurd (cc)

    first : (w : Normalised) → f k a ≡ w
        → normal_then w (λ x ts m. normal_then (f m b) (λ y us n. if is_same x y then map_found (more_passes (trace_row ts) (trace_row us)) (rest n) else Made None n))
        ≡ Made (Some cs) l
        → HeldBy f a b k rest cs l
    first (Normal_form x ts m) g z = second x ts m g (f m b) refl z
    first Budget_spent g z = absurd (cc)
    first (Limit_passed q n) g z = absurd (cc)

module _ (c : Setting) where
  abbrev sig : Signature
  sig = c.theory.signature

  all_hold_lead : (f : Normaliser) → IsLinking c f → (σ : Substitution) → IsSubstitution sig σ → (ps : List Pair) → AllByRecursion (IsWellSortedPair sig) ps
      → (k : ℕ) (cs : Passes) (l : ℕ) → conditions_hold f σ ps k ≡ Made (Some cs) l → ConditionsLead c σ ps (chains_by cs)
  all_hold_lead f links σ s [] w k cs l e = subst (λ x. ConditionsLead c σ [] (chains_by x)) (same_found no_pass cs k l e).0 tt
  all_hold_lead f links σ s (p ∷ ps) w k cs l e =
      let a : Tree = instance σ p.left in
      let b : Tree = instance σ p.right in
      let lim = found_limit (or_else (first_limit a) (first_limit b)) k (same_forms f a b k (conditions_hold f σ ps)) (Some cs) l e in
      let within = both_none (first_limit a) (first_limit b) lim.0 in
      let h = held_by f a b k (conditions_hold f σ ps) cs l lim.1 in
      let la = links k a h.same h.left_traces h.between (instance_well_sorted sig σ p.left s w.0.left) h.left in
      let lb = links h.between b h.same h.right_traces h.after (instance_well_sorted sig σ p.right s w.0.right) h.right in
      subst (λ y. ConditionsLead c σ (p ∷ ps) (chains_by y)) h.is (
        within.0,
        within.1,
        (h.same, row_leads c h.left_traces a h.same la.lead, row_leads c h.right_traces b h.same lb.lead),
        all_hold_lead f links σ s ps w.1 h.after h.passes l h.later,
      )

  -- a try that holds leads
  pub holds_lead : (o : Option Normaliser) → AreLinking c o → (σ : Substitution) → IsSubstitution sig σ → (ps : List Pair) → AllByRecursion (IsWellSortedPair sig) ps
      → (k : ℕ) (cs : Passes) (l : ℕ) → tried o σ ps k ≡ Made (Some cs) l → ConditionsLead c σ ps (chains_by cs)
  holds_lead o links σ s [] w k cs l e = subst (λ x. ConditionsLead c σ [] (chains_by x)) (same_found no_pass cs k l e).0 tt
  holds_lead None links σ s (p ∷ ps) w k cs l e = absurd (cc)
  holds_lead (Some f) links σ s (p ∷ ps) w zero cs l e = absurd (cc)
  holds_lead (Some f) links σ s (p ∷ ps) w (suc k) cs l e = all_hold_lead f links σ s (p ∷ ps) w k cs l e

-- ---- one replacement

pub all_sorted : (th : Theory) (E : List Pair) → AreConditions th E → AllByRecursion (IsWellSortedPair th.signature) E
all_sorted th [] h = tt
all_sorted th (p ∷ ps) h = ((h p (contains_first p ps)).sorted, all_sorted th ps (λ q i. h q (contains_next p q ps i)))

-- What is known of a replacement of a: its link leads wherever it is made, and it keeps the sort.
pub record IsSound (c : Setting) (a : Tree) (r : Replacement) : Type 0 where
  pub leads : (path : List ℕ) (t u : Tree) → at t path ≡ Some a → replaced t path r.new ≡ Some u → IsWithinLimits u → Leads c (link_by path r.reason) t u
  pub keeps : KeepsSort c.theory a r.new

module _ (c : Setting) (ok : IsWellFormed c.theory) (fine : AllByRecursion (IsWellSortedPair c.theory.signature) c.assumptions) where
  abbrev th : Theory
  th = c.theory

  by_assumption : (a : Tree) (r : Replacement) → assumed 0 c.assumptions a ≡ Some r → IsSound c a r
  by_assumption a r e =
      let h = assumed_is 0 c.assumptions a r e in
      let new : Replacement = record { reason = By_assumption h.0; new = h.1.right } in
      let z : 0 + h.0 ≡ h.0 = omega arith in
      let is : new ≡ r = ap (λ k. record { reason = By_assumption k; new = h.1.right }) (sym z) ∙ sym h.4 in
      let sorted = all_at (IsWellSortedPair th.signature) c.assumptions h.0 h.1 fine h.2 in
      subst (λ y. IsSound c a y) is
      (record {
        leads = λ path t u there made within.
            record { assumed = h.1; listed = h.2; replaces = record { there = there ∙ ap Some (sym h.3); made = made; within = within } };
        keeps = record { well_sorted = sorted.right; same_sort = sorted.same_sort ∙ ap sort_of h.3 };
      })

  by_content : (a : Tree) (r : Replacement) → IsWellSorted th.signature a → content_due th.signature a ≡ Some r → IsSound c a r
  by_content (Var n s) r w e = absurd (cc)
  by_content (App f s ts) r w e = go (is_same form a) e
    where
      a : Tree
      a = App f s ts

      form : Tree
      form = canonical_under th.signature f a

      kept : KeepsSort th a form × HasContentOf th.signature f a form
      kept =
          let l = is_canonical th ok f w.0 w.1 a w in
          rw w.1 (
            record { well_sorted = l.well_sorted; same_sort = l.same_sort },
            record { operator = w.0; there = w.1; same_sort = l.same_sort; same_content = sym l.same_content },
          )

      new : Replacement
      new = record { reason = By_content f form; new = form }

      go : (b : Bool) → (if b then None else Some new) ≡ Some r → IsSound c a r
      go true x = absurd (cc)
      go false x =
          subst (λ y. IsSound c a y) (same_Some new r x)
          (record {
            leads = λ path t u there made within. record { old = a; content = kept.1; replaces = record { there = there; made = made; within = within } };
            keeps = kept.0;
          })

  by_rule : (r : Rule) → IsRuleOf c.theory c.hypotheses r → (a : Tree) → IsWellSorted th.signature a → matches r.left a ≡ true → (cs : Passes)
      → ConditionsLead c (matching r.left a) r.conds (chains_by cs)
      → IsSound c a (rule_replaces r a cs)
  by_rule r rule a w m cs held = record { leads = leads; keeps = keeps }
    where
      σ : Substitution
      σ = matching r.left a

      g : Goal
      g = rule_goal r

      terms : List Tree
      terms = terms_by σ (rule_variables r)

      is : instance σ r.left ≡ a
      is = same_here (instance σ r.left) a m

      rewrites : (path : List ℕ) (t u : Tree) → at t path ≡ Some a → replaced t path (instance σ r.right) ≡ Some u → IsWithinLimits u → RewritesBy g Forth path terms t u
      rewrites path t u there made within =
          let back = gives_back g σ in
          record {
            fit = fit_given σ (matching-sorts r.left a) (rule_variables r);
            replaces = record { there = there ∙ ap Some (sym (back.left ∙ is)); made = ap (replaced t path) back.right ∙ made; within = within };
          }

      conds : ConditionsLead c (by_terms g terms) r.conds (chains_by cs)
      conds = lead_same c σ (by_terms g terms) r.conds cs (gives_back g σ).conds held

      go : (name : RuleName) → IsNamed c.theory c.hypotheses name g → (path : List ℕ) (t u : Tree) → RewritesBy g Forth path terms t u
          → Leads c (link_by path (By_rule name terms cs)) t u
      go (name.Equation n) h path t u x = (
        record { equation = h.0; listed = h.1; rewrites = subst (λ y. RewritesBy y Forth path terms t u) (sym h.2) x },
        subst (λ y. ConditionsLead c (by_terms y terms) y.conds (chains_by cs)) (sym h.2) conds,
      )
      go (name.Lemma n) h path t u x = (record { hypothesis = g; listed = h.0; rewrites = x; special = λ hidden. absurd (h.1 hidden) }, conds)

      leads : (path : List ℕ) (t u : Tree) → at t path ≡ Some a → replaced t path (instance σ r.right) ≡ Some u → IsWithinLimits u
          → Leads c (link_by path (By_rule r.name terms cs)) t u
      leads path t u there made within = go r.name rule.named path t u (rewrites path t u there made within)

      keeps : KeepsSort th a (instance σ r.right)
      keeps =
          let s = matching_substitution th.signature r.left a w in
          record {
            well_sorted = instance_well_sorted th.signature σ r.right s rule.sorted.sorted.right;
            same_sort =
                sort_of-instance_by th.signature σ r.right s rule.sorted.sorted.right ∙ rule.sorted.sorted.same_sort
                ∙ sym (sort_of-instance_by th.signature σ r.left s rule.sorted.sorted.left) ∙ ap sort_of is;
          }

  module _ (o : Option Normaliser) (links : AreLinking c o) where
    by_one : (r : Rule) → IsRuleOf c.theory c.hypotheses r → (k : ℕ) (a : Tree) (d : Replacement) (l : ℕ) → IsWellSorted th.signature a
        → rule_tried o r k a ≡ Made (Some d) l → IsSound c a d
    by_one r rule k a d l w e = go (matches r.left a) refl e
      where
        σ : Substitution
        σ = matching r.left a

        new : Passes → Replacement
        new cs = rule_replaces r a cs

        go : (b : Bool) → matches r.left a ≡ b → (if b then map_found new (tried o σ r.conds k) else Made None k) ≡ Made (Some d) l → IsSound c a d
        go false m x = absurd (cc)
        go true m x =
            let h = found_map new (tried o σ r.conds k) d l x in
            subst (λ y. IsSound c a y) h.2
            (by_rule r rule a w m h.0
            (holds_lead c o links σ (matching_substitution th.signature r.left a w) r.conds (all_sorted th r.conds rule.sorted.conds) k h.0 l h.1))

    by_rules : (rs : List Rule) → AllByRecursion (IsRuleOf c.theory c.hypotheses) rs → (k : ℕ) (a : Tree) (d : Replacement) (l : ℕ) → IsWellSorted th.signature a
        → rules_tried o rs k a ≡ Made (Some d) l → IsSound c a d
    by_rules [] all k a d l w e = absurd (cc)
    by_rules (r ∷ rs) all k a d l w e = go (found_next (rule_tried o r k a) (λ m. rules_tried o rs m a) d l e) (λ m x. by_rules rs all.1 m a d l w x)
      where
        go : (rule_tried o r k a ≡ Made (Some d) l) ⊎ ((m : ℕ) × (rule_tried o r k a ≡ Made None m) × (rules_tried o rs m a ≡ Made (Some d) l))
            → ((m : ℕ) → rules_tried o rs m a ≡ Made (Some d) l → IsSound c a d) → IsSound c a d
        go (inl x) ih = by_one r all.0 k a d l w x
        go (inr x) ih = ih x.0 x.2

    module _ (rules : List Rule) (all : AllByRecursion (IsRuleOf c.theory c.hypotheses) rules) where
      pub sound : (k : ℕ) (a : Tree) (d : Replacement) (l : ℕ) → IsWellSorted th.signature a → due_trying o th.signature rules c.assumptions k a ≡ Made (Some d) l → IsSound c a d
      sound k (Var n s) d l w e = by_assumption (Var n s) d (same_parts (assumed 0 c.assumptions (Var n s)) d k l e)
        where
          same_parts : (x : Option Replacement) (y : Replacement) (i j : ℕ) → Made x i ≡ Made (Some y) j → x ≡ Some y
          same_parts x y i j z = cc
      sound k (App f s ts) d l w e = first (assumed 0 c.assumptions a) refl e
        where
          a : Tree
          a = App f s ts

          second : (x : Option Replacement) → content_due th.signature a ≡ x → option_map_or (λ r. Made (Some r) k) x (rules_tried o rules k a) ≡ Made (Some d) l → IsSound c a d
          second None g z = by_rules rules all k a d l w z
          second (Some y) g z = by_content a d w (g ∙ ap Some (same_found y d k l z).0)

          first : (x : Option Replacement) → assumed 0 c.assumptions a ≡ x
              → option_map_or (λ r. Made (Some r) k) (option_or x (content_due th.signature a)) (rules_tried o rules k a) ≡ Made (Some d) l → IsSound c a d
          first None g z = second (content_due th.signature a) refl z
          first (Some y) g z = by_assumption a d (g ∙ ap Some (same_found y d k l z).0)

-- ---- runs

module _ (c : Setting) (due : (budget : ℕ) → Tree → Work (Option Replacement))
    (sound : (k : ℕ) (a : Tree) (d : Replacement) (l : ℕ) → IsWellSorted c.theory.signature a → due k a ≡ Made (Some d) l → IsSound c a d) where
  -- what a run that began with the traces ts ends with
  record IsRun (t u : Tree) (ts us : List Traced) : Type 0 where
    traces : List Traced
    are : us ≡ ts ++ traces
    links : AreLinks c traces t u

  same_normal : (t u : Tree) (ts us : List Traced) (k l : ℕ) → Normal_form t ts k ≡ Normal_form u us l → (t ≡ u) × (ts ≡ us)
  same_normal t u ts us k l e = (cc, cc)

  ended : (t u : Tree) (ts us : List Traced) (k l : ℕ) → IsWellSorted c.theory.signature t → Normal_form t ts k ≡ Normal_form u us l → IsRun t u ts us
  ended t u ts us k l w e =
      let p = same_normal t u ts us k l e in
      record {
        traces = [];
        are = sym p.1 ∙ sym (append-nil ts);
        links = subst (λ x. AreLinks c [] t x) p.0 (record { lead = refl; well_sorted = w; same_sort = refl });
      }

  run_links : (n : ℕ) (from : List ℕ) (t u : Tree) (ts us : List Traced) (k l : ℕ) → IsWellSorted c.theory.signature t → run_from due n from t ts k ≡ Normal_form u us l → IsRun t u ts us
  run_links zero from t u ts us k l w e = go (look_from due from t k) e
    where
      go : (x : Work (Option Placed)) → looked due (λ q m. Budget_spent) t ts x ≡ Normal_form u us l → IsRun t u ts us
      go (Made (Some q) m) z = absurd (cc)
      go (Made None m) z = ended t u ts us m l w z
      go Out z = absurd (cc)
      go (Past y m) z = absurd (cc)
  run_links (suc n) from t u ts us k l w e = go (look_from due from t k) refl e (λ p v vs m y z. run_links n p v u vs us m l y z)
    where
      go : (x : Work (Option Placed)) → look_from due from t k ≡ x → looked due (make due (run_from due n) t ts) t ts x ≡ Normal_form u us l
          → ((p : List ℕ) (v : Tree) (vs : List Traced) (m : ℕ) → IsWellSorted c.theory.signature v → run_from due n p v vs m ≡ Normal_form u us l → IsRun v u vs us)
          → IsRun t u ts us
      go (Made None m) x z ih = ended t u ts us m l w z
      go Out x z ih = absurd (cc)
      go (Past y m) x z ih = absurd (cc)
      go (Made (Some q) zero) x z ih = absurd (cc)
      go (Made (Some q) (suc m)) x z ih = at_limit (first_limit new.0) refl
        where
          there : IsDueAt due t q (suc m)
          there = look_from_there due from t k q (suc m) x

          new : (v : Tree) × (replaced t q.path q.replacement.new ≡ Some v)
          new = replaced_there q.path t there.0 q.replacement.new there.1

          at_limit : (y : Option Limit) → first_limit new.0 ≡ y → IsRun t u ts us
          at_limit (Some y) g = absurd (let h = rw (new.1, g) at z in cc)
          at_limit None g =
              let s = sound there.2 there.0 q.replacement (suc m) (at_sorted c.theory q.path t there.0 w there.1) there.3 in
              let sorts = replaced_sorted c.theory q.path t there.0 q.replacement.new new.0 w there.1 s.keeps new.1 in
              let rest = ih q.path new.0 (ts ++ traced q ∷ []) m sorts.well_sorted (rw (new.1, g) at z) in
              record {
                traces = traced q ∷ rest.traces;
                are = rest.are ∙ append_assoc ts (traced q ∷ []) rest.traces;
                links = record {
                  lead = (new.0, s.leads q.path t new.0 there.1 new.1 g, rest.links.lead);
                  well_sorted = rest.links.well_sorted;
                  same_sort = rest.links.same_sort ∙ sorts.same_sort;
                };
              }

  pub form_links : IsLinking c (λ k t. run_from due k [] t [] k)
  form_links k t u ts l w e =
      let r = run_links k [] t u [] ts k l w e in
      subst (λ vs. AreLinks c vs t u) (sym r.are) r.links

-- ---- with any room for tries

module _ (c : Setting) (ok : IsWellFormed c.theory) (fine : AllByRecursion (IsWellSortedPair c.theory.signature) c.assumptions)
    (rules : List Rule) (all : AllByRecursion (IsRuleOf c.theory c.hypotheses) rules) where
  pub inner_links : (n : ℕ) → AreLinking c (inner_norm n c.theory.signature rules c.assumptions)
  inner_links zero = tt
  inner_links (suc n) =
      form_links c (due_trying (inner_norm n c.theory.signature rules c.assumptions) c.theory.signature rules c.assumptions)
      (sound c ok fine (inner_norm n c.theory.signature rules c.assumptions) (inner_links n) rules all)

  pub norm_links : (n : ℕ) → IsLinking c (norm_with_room n c.theory.signature rules c.assumptions)
  norm_links n =
      form_links c (due_trying (inner_norm n c.theory.signature rules c.assumptions) c.theory.signature rules c.assumptions)
      (sound c ok fine (inner_norm n c.theory.signature rules c.assumptions) (inner_links n) rules all)
