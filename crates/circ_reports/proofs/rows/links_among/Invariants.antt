use Rattle.std.proofs.Common.{◌≡◌, ◌≤◌, ◌+◌, map, drop}
use Rattle.circ_expand.specs.Rows.{plain_row}
use Rattle.circ_reports.specs.Expand.{links_among}
use Rattle.circ_reports.proofs.rows.links_among.Given as goal

abbrev pub invariant-loop-row : goal.invariant-loop-row
invariant-loop-row l = record {
  same : l.count + links_among (map plain_row (drop l.row-index l.rows)) ≡ links_among (map plain_row l.rows);
  few : l.count ≤ l.row-index;
}
