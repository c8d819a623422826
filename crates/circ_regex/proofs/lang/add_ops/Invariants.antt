use Rattle.std.proofs.Common.{◌≡◌, drop, map}
use Rattle.circ_regex.specs.Making.{row_operator, with_ops}
use Rattle.circ_regex.proofs.lang.add_ops.Given as goal

abbrev pub invariant-loop-row : goal.invariant-loop-row
invariant-loop-row l = with_ops l.theory (map row_operator (drop l.row-index l.rows)) ≡ with_ops l.fn.theory (map row_operator l.rows)
