use Rattle.std.proofs.Common.{◌≡◌, ◌++◌, [], map}
use Rattle.circ_written.specs.Rows.{plain_row, rows_of}
use Rattle.circ_written.specs.Nodes.{rope_at, row_of}
use Rattle.circ_written.specs.Writing.{AreOpen, all_due, all_weights}
use Rattle.circ_written.proofs.writing.written.Given as goal

abbrev pub invariant-loop-next : goal.invariant-loop-next
invariant-loop-next l = record {
  are : AreOpen l.nodes l.ahead.items;
  same : map plain_row l.rows.items ++ all_due l.nodes l.ahead.items [] ≡ rows_of (row_of (rope_at l.nodes l.number));
}

abbrev pub decreases-loop-next : goal.decreases-loop-next
decreases-loop-next l = all_weights l.nodes l.ahead.items
