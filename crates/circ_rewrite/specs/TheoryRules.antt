-- The rules of a theory: those of its equations that are rewrite rules.
use Rattle.std.specs.Prelude.{ℕ, ◌+◌, List, [], ◌∷◌, Option, Some, None, if◌then◌else◌}
use Rattle.circ_theory.specs.Rule.{is_rule}
use Rattle.circ_theory.specs.Theory.{Theory}
use Rattle.circ_theory.specs.Goal.{Equation}
use Rattle.circ_rewrite.specs.declared.parts.Rule.{Rule}
use Rattle.circ_rewrite.specs.declared.parts.RuleName.TheVariants as name

-- an equation as a rule, which its number names
abbrev pub rule_of : (number : ℕ) → Equation → Rule
rule_of n e = record { name = name.Equation n; left = e.left; right = e.right; conds = e.conds }

-- the equation of a number as a rule, if it is one
abbrev pub rule_at : (number : ℕ) → Option Equation → Option Rule
rule_at n None = None
rule_at n (Some e) = if is_rule e then Some (rule_of n e) else None

-- the rewrite rules among equations, in order; the first equation has this number
abbrev pub rules_from : (number : ℕ) → List Equation → List Rule
rules_from n [] = []
rules_from n (e ∷ es) = if is_rule e then rule_of n e ∷ rules_from (n + 1) es else rules_from (n + 1) es

abbrev pub theory_rules : Theory → List Rule
theory_rules th = rules_from 0 th.equations
