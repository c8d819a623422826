use Rattle.std.proofs.Common.{◌-◌, ◌<◌, length}
use Rattle.circ_index.specs.declared.rows.TheConstants.{END}
use Rattle.circ_index.proofs.rows.Rows.is_long.Given as goal

abbrev pub invariant-loop-count : goal.invariant-loop-count
invariant-loop-count l = l.place < END → l.place < length l.self.keys

abbrev pub decreases-loop-count : goal.decreases-loop-count
decreases-loop-count l = 4 - l.count
