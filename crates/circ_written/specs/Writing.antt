-- Rows that are still to be written: what is open, the next one last.
use Rattle.std.specs.Prelude.{◌≡◌, ◌<◌, ℕ, ◌+◌, List, [], ◌∷◌, ◌++◌, map, length}
use Rattle.std.specs.List.{AllByRecursion}
use Rattle.circ_term.specs.Tree.{Tree}
use Rattle.circ_theory.specs.declared.way.Way.{Way}
use Rattle.circ_theory.specs.declared.way.Way.TheVariants.{Forth, Back}
use Rattle.circ_expansion.specs.Pieces.{Parts, no_piece, more_pieces, turned_parts, other_way}
use Rattle.circ_expansion.specs.Expand.{by_way}
use Rattle.circ_written.specs.Rows.{PlainRow, plain_row, rows_of, parts_rows}
use Rattle.circ_written.specs.Nodes.{Rope, Nothing, And_link, And_row, Around, No_parts, And_part, All_parts, rope_at, row_of, parts_of, piece_of}
use Rattle.circ_written.specs.declared.rows.Row.{Row}
use Rattle.circ_written.specs.declared.rows.Row.TheVariants as row
use Rattle.circ_written.specs.declared.nodes.Node.{Node}
use Rattle.circ_written.specs.declared.writing.Open.{Open}
use Rattle.circ_written.specs.declared.writing.Open.TheVariants as ahead

abbrev pub parts_by : Way → Parts → Parts
parts_by Forth ps = ps
parts_by Back ps = turned_parts ps

-- a way within another
abbrev pub composed : (own way : Way) → Way
composed own Forth = own
composed own Back = other_way own

-- the row is that of a link in this way
abbrev pub IsRowOf : (link : Row) → Way → Row → Type 0
IsRowOf link way r = plain_row r ∷ [] ≡ rows_of (by_way way (more_pieces (piece_of link) no_piece))

-- the rows of what is open
abbrev pub due : List Node → Open → List PlainRow
due ns (ahead.Row number way) = rows_of (by_way way (row_of (rope_at ns number)))
due ns (ahead.Parts number way) = parts_rows (parts_by way (parts_of (rope_at ns number)))
due ns (ahead.Ready row) = plain_row row ∷ []

-- .. and rows behind them
abbrev pub all_due : List Node → List Open → List PlainRow → List PlainRow
all_due ns [] rs = rs
all_due ns (o ∷ os) rs = all_due ns os (due ns o ++ rs)

-- how many turns it takes
abbrev pub weight : Rope → ℕ
weight Nothing = 1
weight (And_link first link) = 2 + weight first
weight (And_row first way next) = 1 + (weight first + weight next)
weight (Around left middle right) = 1 + (weight left + (weight middle + weight right))
weight No_parts = 1
weight (And_part first others) = 2 + (weight first + weight others)
weight (All_parts term parts) = 3 + weight parts

abbrev pub weight_of : List Node → Open → ℕ
weight_of ns (ahead.Row number way) = weight (rope_at ns number)
weight_of ns (ahead.Parts number way) = weight (rope_at ns number)
weight_of ns (ahead.Ready row) = 1

abbrev pub all_weights : List Node → List Open → ℕ
all_weights ns [] = 0
all_weights ns (o ∷ os) = weight_of ns o + all_weights ns os

-- its number is one of a node
abbrev pub IsOpen : List Node → Open → Type 0
IsOpen ns (ahead.Row number way) = number < length ns
IsOpen ns (ahead.Parts number way) = number < length ns
IsOpen ns (ahead.Ready row) = Unit {0}

abbrev pub AreOpen : List Node → List Open → Type 0
AreOpen ns os = AllByRecursion (IsOpen ns) os

-- what is opened has these rows, and weighs less
pub record AddsOpen (ns : List Node) (old new : List Open) (rows : List PlainRow) (most : ℕ) : Type 0 where
  pub added : List Open
  pub new_are : new ≡ old ++ added
  pub are : AreOpen ns added
  pub rows_are : (rest : List PlainRow) → all_due ns added rest ≡ rows ++ rest
  pub lighter : all_weights ns added < most

-- what has been written, and what is open then
pub record WritesOne (ns : List Node) (next : Open) (old new : List Open) (rows written : List Row) : Type 0 where
  pub are : AreOpen ns old → AreOpen ns new
  pub same : map plain_row written ++ all_due ns new [] ≡ map plain_row rows ++ (due ns next ++ all_due ns old [])
  pub lighter : all_weights ns new < weight_of ns next + all_weights ns old

-- the next one last: two, of which in this way the first comes first
abbrev pub in_order : Way → (first next : Open) → List Open
in_order Forth first next = next ∷ first ∷ []
in_order Back first next = first ∷ next ∷ []

-- a row between two others, of which the second is turned
abbrev pub three_in_order : Way → (left middle right : ℕ) → List Open
three_in_order Forth l m r = ahead.Row r Back ∷ ahead.Row m Forth ∷ ahead.Row l Forth ∷ []
three_in_order Back l m r = ahead.Row l Back ∷ ahead.Row m Back ∷ ahead.Row r Forth ∷ []

-- the row of cases, their parts, and the row at their end
abbrev pub cases_open : Tree → (parts : ℕ) → Way → List Open
cases_open t ps w = ahead.Ready row.End ∷ ahead.Parts ps w ∷ ahead.Ready (row.Cases t) ∷ []

-- a part with the row before it, and the other parts
abbrev pub part_open : (first others : ℕ) → Way → List Open
part_open p ps w = ahead.Parts ps w ∷ ahead.Row p w ∷ ahead.Ready row.Case ∷ []

-- what a node opens, for its row and for its parts
abbrev pub RowOpens : List Node → Way → (old new : List Open) → Rope → Type 0
RowOpens ns w old new r = AddsOpen ns old new (rows_of (by_way w (row_of r))) (weight r)

abbrev pub PartsOpen : List Node → Way → (old new : List Open) → Rope → Type 0
PartsOpen ns w old new r = AddsOpen ns old new (parts_rows (parts_by w (parts_of r))) (weight r)
