-- The first lines of a table that have its terms.
use Rattle.std.specs.Prelude.{◌≡◌, ◌≤◌, ℕ, true, List, length, Some}
use Rattle.std.specs.List.{slice_get}
use Rattle.circ_term.specs.Tree.{Tree}
use Rattle.circ_proof.specs.Table.{has, number_in, term_limit}
use Rattle.circ_file.specs.declared.numbering.Numbering.{Numbering}

-- The terms are those of the lines of a table, each with the number of the first line that has it.
pub record AreNumbered (table terms : List Tree) (firsts : List ℕ) : Type 0 where
  pub same : (t : Tree) → has terms t ≡ has table t
  pub few : length terms ≤ length table
  pub count : length firsts ≡ length terms
  pub firsts_are : (t : Tree) → has table t ≡ true → slice_get firsts (number_in terms t) ≡ Some (number_in table t)

pub record IsNumbering (table : List Tree) (n : Numbering) : Type 0 where
  pub lines : n.lines ≡ length table
  pub short_table : length table ≤ term_limit
  pub numbered : AreNumbered table n.terms n.firsts.items
