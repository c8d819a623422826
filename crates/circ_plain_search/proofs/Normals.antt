-- The traces of a normal form lead to it, and its terms are fine.
use Rattle.std.proofs.Common.{◌≡◌, ℕ, ◌+◌, ◌≤◌, length, Bool, true, false, if◌then◌else◌, List, [], ◌∷◌, map, Option, Some, None, Result, Ok, refl, sym, subst, ◌∙◌, arith}
use Rattle.std.specs.List.{AllByRecursion}
use Rattle.std.specs.Option.{option_or}
use Rattle.std.proofs.lemmas.List.{length-map}
use Rattle.std.proofs.lemmas.Option.{same_Some}
use Rattle.circ_term.specs.Tree.{Tree, Var, App}
use Rattle.circ_term.specs.Limits.{IsWithinLimits}
use Rattle.circ_term.specs.Order.{is_same}
use Rattle.circ_term.specs.Substitution.{Substitution, instance}
use Rattle.circ_term.proofs.Order.{same_here}
use Rattle.circ_term.proofs.Limits.{replaced_within}
use Rattle.circ_theory.specs.Signature.{IsWellSorted}
use Rattle.circ_theory.specs.Theory.{Theory, Pair, IsWellSortedPair}
use Rattle.circ_theory.specs.WellFormed.{IsWellFormed}
use Rattle.circ_theory.specs.Fresh.{above}
use Rattle.circ_theory.specs.Goal.{Goal}
use Rattle.circ_theory.proofs.Lists.{all_at, all_by}
use Rattle.circ_special.specs.declared.place.Place.{Place}
use Rattle.circ_aci.specs.Canonical.{canonical_under}
use Rattle.circ_aci.proofs.Again.{is_canonical}
use Rattle.circ_proof.specs.Link.{Setting, setting, AllOfLink}
use Rattle.circ_rewrite.specs.Replacement.{Replacement, Traced, By_rule, By_content, no_pass}
use Rattle.circ_rewrite.specs.Matching.{matching, matches}
use Rattle.circ_rewrite.specs.Due.{AreUnconditional, assumed, content_due, rule_goal, rule_variables, terms_by, ruled, due_under}
use Rattle.circ_rewrite.specs.Norm.{Normalised, Normal_form, Budget_spent, Limit_passed, norm}
use Rattle.circ_rewrite.specs.Reductions.{TracesLead}
use Rattle.circ_rewrite.specs.Links.{link_by, link_of, IsRuleOf}
use Rattle.circ_rewrite.specs.declared.parts.Rule.{Rule}
use Rattle.circ_rewrite.specs.declared.parts.RuleName.{RuleName}
use Rattle.circ_rewrite.specs.declared.parts.RuleName.TheVariants as name
use Rattle.circ_rewrite.proofs.Linked.{are_links, assumed_is}
use Rattle.circ_rewrite.proofs.RuleTerms.{bound_in_left}
use Rattle.circ_rewrite.proofs.Runs.{normal_form_reduces}
use Rattle.circ_plain_search.specs.Joining.{Stop}
use Rattle.circ_plain_search.specs.Search.{NormalSide, normal_side, side_of, normalised}
use Rattle.circ_plain_search.proofs.Terms.{Fine, FineTerms, replaced_low, instance_low, at_fine, canonical_low}
use Rattle.circ_plain_search.proofs.PairTerms.{pair_terms, given_fine}
use Rattle.circ_plain_search.proofs.Led.{Led, led_none, led_append}

-- assumptions that may be used: well-sorted, and with right sides of low numbers
pub record IsAssumption (th : Theory) (m : ℕ) (p : Pair) : Type 0 where
  pub sorted : IsWellSortedPair th.signature p
  pub low : above p.right ≤ m

-- What is known of what is due in a fine term.
record IsFineDue (th : Theory) (m : ℕ) (path : List ℕ) (r : Replacement) : Type 0 where
  terms : AllOfLink (Fine th m) (link_by path r.reason)
  low : above r.new ≤ m

rule_terms : (th : Theory) (m : ℕ) (path : List ℕ) (n : RuleName) (ts : List Tree) → FineTerms th m ts → AllOfLink (Fine th m) (link_by path (By_rule n ts no_pass))
rule_terms th m path (name.Equation n) ts a = (a, tt)
rule_terms th m path (name.Lemma n) ts a = (a, tt)

module _ (th : Theory) (wf : IsWellFormed th) (m : ℕ) (one : 1 ≤ m) (path : List ℕ) (a : Tree) (f : Fine th m a) where
  by_rule : (H : List Goal) (q : Rule) → IsRuleOf th H q → q.conds ≡ [] → matches q.left a ≡ true
      → IsFineDue th m path (record { reason = By_rule q.name (terms_by (matching q.left a) (rule_variables q)) no_pass; new = instance (matching q.left a) q.right })
  by_rule H q rule bare e =
      let σ : Substitution = matching q.left a in
      let is : instance σ q.left ≡ a = same_here (instance σ q.left) a e in
      let left : (n s : ℕ) → _ → Fine th m (σ n s) = given_fine th m σ q.left a is f in
      record {
        terms = rule_terms th m path q.name (terms_by σ (rule_variables q))
            (pair_terms (Fine th m) (rule_goal q) bare σ left (λ n s h. left n s (bound_in_left q rule.rewrites n s h)));
        low = instance_low m σ q.right (λ n s h. (left n s (bound_in_left q rule.rewrites n s h)).low);
      }

  by_rules : (H : List Goal) (rs : List Rule) → AllByRecursion (IsRuleOf th H) rs → AreUnconditional rs → (r : Replacement) → ruled rs a ≡ Some r → IsFineDue th m path r
  by_rules H [] all bare r e = absurd (cc)
  by_rules H (q ∷ rs) all bare r e = go (matches q.left a) refl e (by_rules H rs all.1 bare.1 r)
    where
      new : Replacement
      new = record { reason = By_rule q.name (terms_by (matching q.left a) (rule_variables q)) no_pass; new = instance (matching q.left a) q.right }

      go : (b : Bool) → matches q.left a ≡ b → option_or (if b then Some new else None) (ruled rs a) ≡ Some r
          → (ruled rs a ≡ Some r → IsFineDue th m path r) → IsFineDue th m path r
      go false b x ih = ih x
      go true b x ih = subst (IsFineDue th m path) (same_Some new r x) (by_rule H q all.0 bare.0 b)

  by_assumption : (A : List Pair) → AllByRecursion (IsAssumption th m) A → (r : Replacement) → assumed 0 A a ≡ Some r → IsFineDue th m path r
  by_assumption A all r e =
      let h = assumed_is 0 A a r e in
      let g = all_at (IsAssumption th m) A h.0 h.1 all h.2 in
      subst (IsFineDue th m path) (sym h.4) (record { terms = tt; low = g.low })

by_content : (th : Theory) → IsWellFormed th → (m : ℕ) → 1 ≤ m → (path : List ℕ) (a : Tree) → Fine th m a → (r : Replacement)
    → content_due th.signature a ≡ Some r → IsWithinLimits r.new → IsFineDue th m path r
by_content th wf m one path (Var n s) f r e w = absurd (cc)
by_content th wf m one path (App g s ts) f r e w = go (is_same form a) e
  where
    a : Tree
    a = App g s ts

    form : Tree
    form = canonical_under th.signature g a

    new : Replacement
    new = record { reason = By_content g form; new = form }

    sorted : IsWellSorted th.signature form
    sorted = rw f.sorted.1 (is_canonical th wf g f.sorted.0 f.sorted.1 a f.sorted).well_sorted

    low : above form ≤ m
    low = canonical_low m th.signature g a one f.low

    go : (b : Bool) → (if b then None else Some new) ≡ Some r → IsFineDue th m path r
    go true x = absurd (cc)
    go false x =
        let is : new ≡ r = same_Some new r x in
        let P : Replacement → Type 0 = λ y. IsWithinLimits y.new in
        subst (IsFineDue th m path) is (record { terms = (record { sorted = sorted; within = subst P (sym is) w; low = low }); low = low })

module _ (th : Theory) (wf : IsWellFormed th) (m : ℕ) (one : 1 ≤ m) (H : List Goal) (rules : List Rule) (all : AllByRecursion (IsRuleOf th H) rules)
    (bare : AreUnconditional rules) (A : List Pair) (fine : AllByRecursion (IsAssumption th m) A) where
  due_fine : (path : List ℕ) (a : Tree) → Fine th m a → (r : Replacement) → due_under th.signature rules A a ≡ Some r → IsWithinLimits r.new
      → IsFineDue th m path r
  due_fine path (Var n s) f r e w = by_assumption th wf m one path (Var n s) f A fine r e
  due_fine path (App g s ts) f r e w = first (assumed 0 A (App g s ts)) refl e
    where
      second : (o : Option Replacement) → content_due th.signature (App g s ts) ≡ o → option_or o (ruled rules (App g s ts)) ≡ Some r → IsFineDue th m path r
      second None c x = by_rules th wf m one path (App g s ts) f H rules all bare r x
      second (Some y) c x = by_content th wf m one path (App g s ts) f r (c ∙ x) w

      first : (o : Option Replacement) → assumed 0 A (App g s ts) ≡ o
          → option_or o (option_or (content_due th.signature (App g s ts)) (ruled rules (App g s ts))) ≡ Some r → IsFineDue th m path r
      first None c x = second (content_due th.signature (App g s ts)) refl x
      first (Some y) c x = by_assumption th wf m one path (App g s ts) f A fine r (c ∙ x)

  sorted_assumptions : AllByRecursion (IsWellSortedPair th.signature) A
  sorted_assumptions = all_by (IsAssumption th m) (IsWellSortedPair th.signature) A (λ p a. a.sorted) fine

  abbrev around : List Place → Setting
  around G = setting th G H A

  traces_led : (G : List Place) (traces : List Traced) (t u : Tree) → Fine th m t → TracesLead (due_under th.signature rules A) traces t u
      → Led (around G) m (map link_of traces) t u
  traces_led G [] t u f e = let P : Tree → Type 0 = Led (around G) m [] t in subst P e (led_none (around G) m t f)
  traces_led G (tr ∷ ts) t u f h =
      let v : Tree = h.1 in
      let r : Replacement = h.0 in
      let step = h.3 in
      let links = are_links (around G) wf sorted_assumptions rules all bare (tr ∷ []) t v f.sorted (r, v, h.2, step, refl) in
      let due = due_fine tr.path step.old (at_fine th m tr.path t step.old f step.there) r step.is_due
      (replaced_within tr.path t r.new v step.made step.within) in
      let P : Traced → Type 0 = λ x. AllOfLink (Fine th m) (link_of x) in
      let now : Fine th m v
      = record { sorted = links.well_sorted; within = step.within; low = replaced_low m tr.path t r.new v step.made f.low due.low } in
      led_append (around G) m (link_of tr ∷ []) (map link_of ts) t v u
      (record { leads = links.lead; fine = now; same_sort = links.same_sort; terms = (subst P (sym h.2) due.terms, tt) })
      (traces_led G ts v u now h.4)

  -- What normalising a side gives.
  pub record IsNormalSide (G : List Place) (t : Tree) (k : ℕ) (n : NormalSide) : Type 0 where
    pub led : Led (setting th G H A) m n.links t n.term
    pub count : n.budget + length n.links ≡ k

  pub normal_form_led : (G : List Place) (t u : Tree) (traces : List Traced) (k left : ℕ) → Fine th m t
      → norm th.signature rules A k t ≡ Normal_form u traces left → Led (setting th G H A) m (map link_of traces) t u
  normal_form_led G t u traces k left f e =
      traces_led G traces t u f (normal_form_reduces (due_under th.signature rules A) k t u traces left e).leads

  pub normalised_led : (G : List Place) (t : Tree) (k : ℕ) (n : NormalSide) → Fine th m t → normalised th rules A t k ≡ Ok n → IsNormalSide G t k n
  normalised_led G t k n f e = go (norm th.signature rules A k t) refl e
    where
      same : (x y : NormalSide) → ◌≡◌ {A = Result NormalSide Stop} (Ok x) (Ok y) → x ≡ y
      same x y e = cc

      go : (o : Normalised) → norm th.signature rules A k t ≡ o → side_of o ≡ Ok n → IsNormalSide G t k n
      go (Normal_form u traces left) x y =
          let r = normal_form_reduces (due_under th.signature rules A) k t u traces left x in
          let is : normal_side u (map link_of traces) left ≡ n = same (normal_side u (map link_of traces) left) n y in
          let long = length-map traces link_of in
          let count = r.count in
          subst (IsNormalSide G t k) is (record { led = traces_led G traces t u f r.leads; count = omega (arith, long, count) })
      go Budget_spent x y = absurd (cc)
      go (Limit_passed l left) x y = absurd (cc)
