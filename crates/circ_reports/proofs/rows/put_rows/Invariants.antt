use Rattle.std.proofs.Common.{◌≡◌, ◌++◌, flat_map, map, drop}
use Rattle.circ_expand.specs.Rows.{plain_row}
use Rattle.circ_reports.specs.Expand.{row_line}
use Rattle.circ_reports.proofs.rows.put_rows.Given as goal

abbrev pub invariant-loop-row : goal.invariant-loop-row
invariant-loop-row l =
    l.out.items ++ flat_map (row_line l.theory.signature) (map plain_row (drop l.row-index l.rows))
    ≡ l.fn.out.items ++ flat_map (row_line l.theory.signature) (map plain_row l.rows)
