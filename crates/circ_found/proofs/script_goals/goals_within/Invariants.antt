use Rattle.std.proofs.Common.{drop}
use Rattle.std.specs.List.{AllByRecursion}
use Rattle.circ_found.specs.Searchable.{IsWithinGoal}
use Rattle.circ_found.proofs.script_goals.goals_within.Given as goal

abbrev pub invariant-loop-goal : goal.invariant-loop-goal
invariant-loop-goal l = AllByRecursion IsWithinGoal (drop l.goal-index l.goals) → AllByRecursion IsWithinGoal l.goals
