-- What is due at the root of a term under rules with conditions: the first that applies of an assumption with the term as its left side,
-- the canonical form where it is another term, and a rule whose left side matches and whose conditions hold. At a variable only an assumption applies.
use Rattle.std.specs.Prelude.{ℕ, zero, suc, List, [], ◌∷◌, if◌then◌else◌, Option, Some, None}
use Rattle.std.specs.Option.{option_or, option_map_or}
use Rattle.circ_term.specs.Tree.{Tree, Var, App}
use Rattle.circ_term.specs.Limits.{first_limit, or_else}
use Rattle.circ_term.specs.Order.{is_same}
use Rattle.circ_term.specs.Substitution.{Substitution, instance}
use Rattle.circ_theory.specs.Signature.{Signature}
use Rattle.circ_theory.specs.Theory.{Pair}
use Rattle.circ_rewrite.specs.Matching.{matching, matches}
use Rattle.circ_rewrite.specs.Due.{assumed, content_due, rule_variables, terms_by}
use Rattle.circ_rewrite.specs.Norm.{Normalised}
use Rattle.circ_rewrite.specs.Replacement.{Passes, no_pass, more_passes, Replacement, By_rule, trace_row}
use Rattle.circ_rewrite.specs.declared.parts.Rule.{Rule}
use Rattle.circ_conditional_norm.specs.Work.{Work, Made, Out, or_next, map_found, unless_limit, normal_then}

-- a way to normalise: with this budget, this term
abbrev pub Normaliser : Type 0
Normaliser = ℕ → Tree → Normalised

-- both are normalised, the first before the second; where the results are the same, the traces of both are a pass
abbrev pub same_forms : Normaliser → (a b : Tree) → (budget : ℕ) → (rest : ℕ → Work (Option Passes)) → Work (Option Passes)
same_forms normal a b k rest =
    normal_then (normal k a) (λ x ts l. normal_then (normal l b) (λ y us m.
    if is_same x y then map_found (more_passes (trace_row ts) (trace_row us)) (rest m) else Made None m))

-- the instances of both sides of a condition are built, left first, and then normalised
abbrev pub condition_holds : Normaliser → Substitution → Pair → (budget : ℕ) → (rest : ℕ → Work (Option Passes)) → Work (Option Passes)
condition_holds normal σ p k rest =
    unless_limit (or_else (first_limit (instance σ p.left)) (first_limit (instance σ p.right))) k
    (same_forms normal (instance σ p.left) (instance σ p.right) k rest)

-- conditions are taken in order, each only after those before it hold
abbrev pub conditions_hold : Normaliser → Substitution → List Pair → (budget : ℕ) → Work (Option Passes)
conditions_hold normal σ [] k = Made (Some no_pass) k
conditions_hold normal σ (p ∷ ps) k = condition_holds normal σ p k (conditions_hold normal σ ps)

-- A try: one step, and then the conditions. Without conditions there is none, and where eight tries stand around it, it is not made.
abbrev pub tried : Option Normaliser → Substitution → List Pair → (budget : ℕ) → Work (Option Passes)
tried o σ [] k = Made (Some no_pass) k
tried None σ (p ∷ ps) k = Made None k
tried (Some normal) σ (p ∷ ps) zero = Out
tried (Some normal) σ (p ∷ ps) (suc k) = conditions_hold normal σ (p ∷ ps) k

-- the replacement of t by a rule whose left side matches it, with these passes for its conditions
abbrev pub rule_replaces : Rule → Tree → Passes → Replacement
rule_replaces r t passes =
    record { reason = By_rule r.name (terms_by (matching r.left t) (rule_variables r)) passes; new = instance (matching r.left t) r.right }

-- the replacement by a rule, where its left side matches and its conditions hold
abbrev pub rule_tried : Option Normaliser → Rule → (budget : ℕ) → Tree → Work (Option Replacement)
rule_tried o r k t =
    if matches r.left t then map_found (rule_replaces r t) (tried o (matching r.left t) r.conds k) else Made None k

-- the first rule that applies
abbrev pub rules_tried : Option Normaliser → List Rule → (budget : ℕ) → Tree → Work (Option Replacement)
rules_tried o [] k t = Made None k
rules_tried o (r ∷ rs) k t = or_next (rule_tried o r k t) (λ l. rules_tried o rs l t)

-- what applies before rules
abbrev pub before_rules : Signature → (assumptions : List Pair) → Tree → Option Replacement
before_rules sig A t = option_or (assumed 0 A t) (content_due sig t)

abbrev pub due_trying : Option Normaliser → Signature → List Rule → (assumptions : List Pair) → (budget : ℕ) → Tree → Work (Option Replacement)
due_trying o sig rs A k (Var n s) = Made (assumed 0 A (Var n s)) k
due_trying o sig rs A k (App f s ts) = option_map_or (λ r. Made (Some r) k) (before_rules sig A (App f s ts)) (rules_tried o rs k (App f s ts))
