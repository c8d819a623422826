-- What takes the bytes of a file.
use Rattle.std.specs.Prelude.{◌≡◌, ◌≤◌, ℕ, List, Some, true, length}
use Rattle.circ_outer.specs.Shelf.{ShelfState}
use Rattle.circ_files.specs.declared.files.TheConstants.{MOST_BYTES}

-- Bytes within the limit were taken, of which this is true. Where the shelf tells, the named file holds them.
pub record TakesBytes (name : List ℕ) (before : ShelfState) (P : List ℕ → Type 0) : Type 0 where
  pub bytes : List ℕ
  pub short : length bytes ≤ MOST_BYTES
  pub held : before.tells ≡ true → before.holds name ≡ Some bytes
  pub are : P bytes
