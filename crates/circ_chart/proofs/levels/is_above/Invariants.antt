use Rattle.std.proofs.Common.{◌≤◌, ◌-◌}
use Rattle.circ_chart.proofs.levels.is_above.Given as goal

abbrev pub invariant-loop-place : goal.invariant-loop-place
invariant-loop-place l = l.from ≤ l.place

abbrev pub decreases-loop-place : goal.decreases-loop-place
decreases-loop-place l = l.end - l.place
