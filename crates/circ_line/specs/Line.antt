-- The lines of a proof file, as plain data. Terms go by their numbers in the table.
use Rattle.std.specs.Prelude.{ℕ, List}
use Rattle.circ_proof.specs.Plain.{LinkOf}

-- a line of the table: a variable, or an operator at terms
pub data TableLine : Type 0 where
  Variable_line : (number sort : ℕ) → TableLine
  Application_line : (op : ℕ) (args : List ℕ) → TableLine

-- each kind of line, whatever its place in the file; the chains of a link's conditions are in the lines after its own
pub data Line : Type 0 where
  head_line : (version : ℕ) → Line
  table_line : TableLine → Line
  place_line : (op arg : ℕ) → Line
  certificate_line : Line
  block_line : Line
  goal_line : (left right : ℕ) → Line
  given_line : (left right : ℕ) → Line
  simplify_line : Line
  reduce_line : Line
  derive_line : Line
  cases_line : (term : ℕ) → Line
  done_line : Line
  same_line : Line
  split_line : (term count : ℕ) → Line
  if_line : Line
  left_line : LinkOf ℕ → Line
  right_line : LinkOf ℕ → Line
  end_line : Line
