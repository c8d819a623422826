use Rattle.std.proofs.Common.{◌≡◌, ◌++◌, drop}
use Rattle.circ_trace.specs.Descents.{given_row}
use Rattle.circ_trace.proofs.descents.given.Given as goal

abbrev pub invariant-loop-goal : goal.invariant-loop-goal
invariant-loop-goal l = l.row.items ++ given_row (drop l._goal-index l.goals) ≡ given_row l.goals
