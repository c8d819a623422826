-- What the call answers.
use Rattle.std.specs.Prelude.{◌≡◌, ℕ, map, Result, Ok, Err}
use Rattle.std.specs.Global.{Vec}
use Rattle.circ_term.specs.Limits.{Big, Deep}
use Rattle.circ_expansion.specs.Pieces.{Pieces}
use Rattle.circ_expansion.specs.Expand.{Spending, Yields, Long, Past}
use Rattle.circ_written.specs.declared.rows.Row.{Row}
use Rattle.circ_expand.specs.declared.fault.ExpandFault.{ExpandFault}
use Rattle.circ_expand.specs.declared.fault.ExpandFault.TheVariants as fault
use Rattle.circ_written.specs.Rows.{plain_row, rows_of}

-- What the call answers where this is what the expansion comes to: the rows of what is written out; that one unit more was begun than there are; or the limit
-- that a term is past. Want of memory may come at any time.
abbrev pub IsWrittenOut : Spending Pieces → Result (Vec Row) ExpandFault → Type 0
IsWrittenOut o (Ok rows) = (xs : Pieces) × (left : ℕ) × (o ≡ Yields xs left) × (map plain_row rows.items ≡ rows_of xs)
IsWrittenOut o (Err (fault.Long units)) = (o ≡ Long) × (units ≡ 100001)
IsWrittenOut o (Err (fault.TooBig nodes)) = o ≡ Past (Big nodes)
IsWrittenOut o (Err (fault.TooDeep depth)) = o ≡ Past (Deep depth)
IsWrittenOut o (Err fault.Memory) = Unit {0}
