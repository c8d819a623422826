-- Which equations are rewrite rules.
use Rattle.std.specs.Prelude.{Bool, ◌&&◌, ◌++◌, is_some, nat_lt, length}
use Rattle.std.specs.List.{list_any, list_all}
use Rattle.circ_term.specs.Tree.{operator_number}
use Rattle.circ_pairs.specs.declared.goals.Equation.{Equation}
use Rattle.circ_pairs.specs.declared.goals.Goal.{Goal}
use Rattle.circ_pairs.specs.Goal.{goal_of}
use Rattle.circ_pairs.specs.Variables.{is_variable, occurrences, pair_occurrences}

-- each variable of the right side and of the conditions is in the left side
abbrev pub is_bound : Goal → Bool
is_bound g = list_all (λ v. list_any (is_variable v) (occurrences g.left)) (occurrences g.right ++ pair_occurrences g.conds)

-- A rule may be used as one, its left side is no variable, and each variable of its right side and its conditions is in its left side.
abbrev pub is_rule : Equation → Bool
is_rule e = e.exec && is_some (operator_number e.left) && is_bound (goal_of e)

-- an equation with a condition
abbrev pub is_conditional : Equation → Bool
is_conditional e = nat_lt 0 (length e.conds)
