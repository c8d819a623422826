use Rattle.std.proofs.Common.{◌≡◌, ◌++◌, drop}
use Rattle.circ_reports.proofs.incoming.shared.Given as goal

abbrev pub invariant-loop-goal : goal.invariant-loop-goal
invariant-loop-goal l = l.list.items ++ drop l.goal-index l.goals ≡ l.goals
