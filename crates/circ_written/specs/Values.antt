-- The values that are written so far, as contracts see them, and what becomes of them.
use Rattle.std.specs.Prelude.{◌≡◌, ℕ, Bool, true, false, List, [], ◌∷◌, Option, Some, None, map}
use Rattle.std.specs.Global.{Vec}
use Rattle.circ_expansion.specs.Pieces.{Piece, Pieces, no_piece, more_pieces, pieces_joined}
use Rattle.circ_expansion.specs.Expand.{Spending, Yields, Stopped}
use Rattle.circ_expansion.specs.Machine.{Value, In_row, In_parts, last_row}
use Rattle.circ_written.specs.Nodes.{values_in}
use Rattle.circ_written.specs.Rows.{plain_row, rows_of}
use Rattle.circ_written.specs.declared.rows.Row.{Row}
use Rattle.circ_written.specs.declared.values.Values.{Values}

-- the last one first
abbrev pub values_of : Values → List Value
values_of v = values_in v.nodes.items v.stack.items

-- a link goes behind the last row
abbrev pub and_link : Piece → List Value → List Value
and_link x (In_row v ∷ vs) = In_row (pieces_joined v (more_pieces x no_piece)) ∷ vs
and_link x (In_parts ps ∷ vs) = In_parts ps ∷ vs
and_link x [] = []

-- what a call answers that is to make these values: whether there are any
abbrev pub Makes : Bool → List Value → Spending (List Value) → ℕ → Type 0
Makes true vs o n = o ≡ Yields vs n
Makes false vs o n = o ≡ Stopped

-- the rows of the one row that is left at the end, or nothing fits
abbrev pub IsLastRow : List Value → Option (Vec Row) → Type 0
IsLastRow vs None = (n : ℕ) → last_row vs n ≡ Stopped
IsLastRow vs (Some rows) = (xs : Pieces) × (vs ≡ In_row xs ∷ []) × (map plain_row rows.items ≡ rows_of xs)
