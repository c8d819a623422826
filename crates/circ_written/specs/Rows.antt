-- A derivation that is written out, as rows one after another: the form in which it is handed out, and the order in which it is printed.
use Rattle.std.specs.Prelude.{ℕ, List, [], ◌∷◌, ◌++◌, map}
use Rattle.circ_term.specs.Tree.{Tree}
use Rattle.circ_term.specs.Subst.{Bound}
use Rattle.circ_theory.specs.declared.way.Way.{Way}
use Rattle.circ_expansion.specs.Pieces.{Piece, Pieces, Parts, Equation_piece, Content_piece, Assumption_piece, Cases_piece, no_piece, more_pieces, no_part}
use Rattle.circ_expansion.specs.Pieces.{more_parts}
use Rattle.circ_written.specs.declared.rows.Given.{Given}
use Rattle.circ_written.specs.declared.rows.Row.{Row}
use Rattle.circ_written.specs.declared.rows.Row.TheVariants as row

pub data PlainRow : Type 0 where
  Equation_row : (number : ℕ) (way : Way) (path : List ℕ) (terms : List Tree) → PlainRow
  Content_row : (op : ℕ) (path : List ℕ) (old new : Tree) (by : List Bound) → PlainRow
  Assumption_row : (number : ℕ) (way : Way) (path : List ℕ) → PlainRow
  Cases_row : (term : Tree) → PlainRow
  Case_row : PlainRow
  End_row : PlainRow

-- A link is one row. Cases are the row of their term, each part after a row of its own, and a row at the end.
abbrev mutual
  pub piece_rows : Piece → List PlainRow
  piece_rows (Equation_piece number way path terms) = Equation_row number way path terms ∷ []
  piece_rows (Content_piece op path old new by) = Content_row op path old new by ∷ []
  piece_rows (Assumption_piece number way path) = Assumption_row number way path ∷ []
  piece_rows (Cases_piece term parts) = Cases_row term ∷ (parts_rows parts ++ End_row ∷ [])

  pub rows_of : Pieces → List PlainRow
  rows_of no_piece = []
  rows_of (more_pieces x xs) = piece_rows x ++ rows_of xs

  pub parts_rows : Parts → List PlainRow
  parts_rows no_part = []
  parts_rows (more_parts p ps) = Case_row ∷ (rows_of p ++ parts_rows ps)

-- what contracts see of rows
abbrev pub given_bound : Given → Bound
given_bound g = record { number = g.number; sort = g.sort; term = g.term }

abbrev pub plain_row : Row → PlainRow
plain_row (row.Equation number way path terms) = Equation_row number way path.items terms.items
plain_row (row.Content op path old new by) = Content_row op path.items old new (map given_bound by.items)
plain_row (row.Assumption number way path) = Assumption_row number way path.items
plain_row (row.Cases term) = Cases_row term
plain_row row.Case = Case_row
plain_row row.End = End_row

-- the units of the call
abbrev pub unit_limit : ℕ
unit_limit = 100000
