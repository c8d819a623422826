-- A rule that is tried among others.
use Rattle.std.proofs.Common.{◌≡◌, ℕ, ◌+◌, ◌≤◌, suc, List, drop, Option, Some, None, ap, ◌∙◌, arith}
use Rattle.std.specs.List.{slice_get}
use Rattle.circ_term.specs.Tree.{Tree}
use Rattle.circ_term.specs.Subst.{substitution_of}
use Rattle.circ_rewrite.specs.Replacement.{Passes, Replacement}
use Rattle.circ_rewrite.specs.declared.fault.RewriteFault.{RewriteFault}
use Rattle.circ_rewrite.specs.declared.parts.Rule.{Rule}
use Rattle.circ_due.specs.Bounds.{bounds_in}
use Rattle.circ_due.specs.Chosen.{IsFit}
use Rattle.circ_due.specs.Finding.{NoneFits}
use Rattle.circ_due.specs.declared.choice.Bound.{Bound}
use Rattle.circ_conditional_norm.specs.Tries.{Normaliser, rule_replaces, rules_tried, tried}
use Rattle.circ_conditional_norm.specs.Work.{Work, Made, or_next, map_found}
use Rattle.circ_tries.specs.Trying.{Hinders}
use Rattle.circ_tries.proofs.Faulting.{hinders_map, hinders_next, hinders_same}
use Rattle.circ_tries.proofs.Tried.{rule_fits, rules_next}

-- Up to a place the rules were passed over or tried in vain; the next one that matches stands at n.
pub record IsNextRule (o : Option Normaliser) (nodes : List Tree) (rules : List Rule) (t : Tree) (first from k n : ℕ) (r : Rule) (given : List Bound) : Type 0 where
  pub before : rules_tried o rules first t ≡ rules_tried o (drop from rules) k t
  pub low : from ≤ n
  pub there : slice_get rules n ≡ Some r
  pub fit : IsFit nodes r t given
  pub none : NoneFits rules t from n

module _ (o : Option Normaliser) (nodes : List Tree) (rules : List Rule) (t : Tree) (first from k n : ℕ) (r : Rule) (given : List Bound)
    (h : IsNextRule o nodes rules t first from k n r given) where
  abbrev one_try : Work (Option Passes)
  one_try = tried o (substitution_of (bounds_in nodes given)) r.conds k

  abbrev others : ℕ → Work (Option Replacement)
  others l = rules_tried o (drop (suc n) rules) l t

  one_tried : rules_tried o rules first t ≡ or_next (map_found (rule_replaces r t) one_try) others
  one_tried = h.before ∙ rules_next o t rules from n r k h.low h.there h.none ∙ ap (λ w. or_next w others) (rule_fits o nodes r t given k h.fit)

  pub rule_hinders : (e : RewriteFault) (l : ℕ) → Hinders e l one_try → Hinders e l (rules_tried o rules first t)
  rule_hinders e l x =
      hinders_same e l (rules_tried o rules first t) (or_next (map_found (rule_replaces r t) one_try) others) one_tried
      (hinders_next others e l (map_found (rule_replaces r t) one_try) (hinders_map (rule_replaces r t) e l one_try x))

  pub rule_fails : (l : ℕ) → one_try ≡ Made None l → rules_tried o rules first t ≡ rules_tried o (drop (n + 1) rules) l t
  rule_fails l e =
      let z : suc n ≡ n + 1 = omega arith in
      one_tried ∙ ap (λ w. or_next (map_found (rule_replaces r t) w) others) e ∙ ap (λ i. rules_tried o (drop i rules) l t) z

  pub rule_applies : (l : ℕ) (ps : Passes) → one_try ≡ Made (Some ps) l → rules_tried o rules first t ≡ Made (Some (rule_replaces r t ps)) l
  rule_applies l ps e = one_tried ∙ ap (λ w. or_next (map_found (rule_replaces r t) w) others) e
