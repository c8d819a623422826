use Rattle.std.proofs.Common.{◌≡◌, ◌++◌, map, length}
use Rattle.circ_expansion.specs.Pieces.{bounds_by}
use Rattle.circ_expansion.specs.Expand.{bounds_of}
use Rattle.circ_written.specs.Rows.{given_bound}
use Rattle.circ_uses.specs.Valuations.{by_of, variable_of}
use Rattle.circ_link_steps.proofs.bounds.bounds_of.Given as goal

abbrev pub invariant-loop-variable : goal.invariant-loop-variable
invariant-loop-variable l =
    map given_bound l.bounds.items ++ bounds_by (by_of l.by) (map variable_of l.rest) ≡ bounds_of (by_of l.by) l.old l.new

abbrev pub decreases-loop-variable : goal.decreases-loop-variable
decreases-loop-variable l = length l.rest
