use Rattle.std.proofs.Common.{◌-◌, length}
use Rattle.circ_chart.proofs.levels.first_higher.Given as goal

abbrev pub decreases-loop-place : goal.decreases-loop-place
decreases-loop-place l = length l.levels - l.place
