use Rattle.std.proofs.Common.{◌≡◌, ◌++◌, drop}
use Rattle.circ_rewrite.proofs.goals.share_goals.Given as goal

abbrev pub invariant-loop-goal : goal.invariant-loop-goal
invariant-loop-goal l = l.copy.items ++ drop l.goal-index l.goals ≡ l.fn.goals
