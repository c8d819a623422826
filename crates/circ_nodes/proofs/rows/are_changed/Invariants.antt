use Rattle.circ_nodes.specs.Rows.{changed_args}
use Rattle.circ_nodes.proofs.Changing.{AgreeUpTo}
use Rattle.circ_nodes.proofs.rows.are_changed.Given as goal

abbrev pub invariant-loop-i : goal.invariant-loop-i
invariant-loop-i l = AgreeUpTo l.args (changed_args l.fn.root) l.i
