-- The lines of a table, by number where they are named.
use Rattle.std.specs.Prelude.{◌≡◌, ◌⊎◌, ◌<◌, ℕ, List, [], map, length, slice_index_or, Option, Some, None}
use Rattle.std.specs.List.{Contains, AllByRecursion}
use Rattle.circ_term.specs.Tree.{Tree}
use Rattle.circ_theory.specs.Rewriting.{named}
use Rattle.circ_nodes.specs.Named.{IsNamed, tree_at}
use Rattle.circ_entering.specs.declared.lines.LineNumbers.{LineNumbers}
use Rattle.circ_entering.specs.declared.lines.NamedLines.{NamedLines}

-- the line's number is that of its term
abbrev pub HasOwnNumber : (nodes table : List Tree) (numbers : List ℕ) (line : ℕ) → Type 0
HasOwnNumber nodes table numbers n = IsNamed nodes (slice_index_or numbers n 0) (named table n)

-- The first line has its own number. Each other has its own too, or that of the first, or it is one of those that are late.
pub record HaveNumbers (nodes table : List Tree) (numbers late : List ℕ) : Type 0 where
  pub count : length numbers ≡ length table
  pub first : 0 < length table → HasOwnNumber nodes table numbers 0
  pub each : (n : ℕ) → n < length table
      → HasOwnNumber nodes table numbers n ⊎ ((slice_index_or numbers n 0 ≡ slice_index_or numbers 0 0) ⊎ Contains late n)
  pub within : AllByRecursion (λ n. n < length table) late

-- More lines have their own numbers: each that had its own has it still, and those that are new are late.
pub record EntersMore (table old_nodes new_nodes : List Tree) (old new : LineNumbers) : Type 0 where
  pub numbers : HaveNumbers new_nodes table new.numbers.items []
  pub kept : (n : ℕ) → HasOwnNumber old_nodes table old.numbers.items n → HasOwnNumber new_nodes table new.numbers.items n
  pub stay : (nodes : List Tree) → HaveNumbers nodes table old.numbers.items old.late.items → HaveNumbers nodes table new.numbers.items new.late.items

-- ---- where the table may be none, and each line has the number that it was given

abbrev pub HaveNumbersBy : (nodes : List Tree) → Option (List Tree) → (numbers late : List ℕ) → Type 0
HaveNumbersBy nodes None numbers late = AllByRecursion (λ n. n < length nodes) numbers × (late ≡ [])
HaveNumbersBy nodes (Some table) numbers late = HaveNumbers nodes table numbers late

abbrev pub lines_by : (nodes : List Tree) → Option (List Tree) → (numbers : List ℕ) → List Tree
lines_by nodes None numbers = map (tree_at nodes) numbers
lines_by nodes (Some table) numbers = table

-- the numbers of the lines
abbrev pub line_numbers : NamedLines → List ℕ
line_numbers l = l.lines.numbers.items

-- the terms of these numbers
abbrev pub numbered_at : (nodes : List Tree) → NamedLines → List Tree
numbered_at nodes l = map (tree_at nodes) (line_numbers l)

-- the terms of the lines
abbrev pub lines_at : (nodes : List Tree) → NamedLines → List Tree
lines_at nodes l = lines_by nodes l.table (line_numbers l)

-- each line has its own number among these terms, or that of the first line
abbrev pub AreLinesAt : (nodes : List Tree) → NamedLines → Type 0
AreLinesAt nodes l = HaveNumbersBy nodes l.table (line_numbers l) []

-- and so it will be among these terms without the lines that are late
abbrev pub LinesStay : (nodes : List Tree) → NamedLines → Type 0
LinesStay nodes l = HaveNumbersBy nodes l.table (line_numbers l) l.lines.late.items

-- more lines may have their own numbers
pub record EntersLines (old_nodes new_nodes : List Tree) (old new : NamedLines) : Type 0 where
  pub lines : AreLinesAt new_nodes new
  pub terms : lines_at new_nodes new ≡ lines_at old_nodes old
  pub stay : (nodes : List Tree) → LinesStay nodes old → LinesStay nodes new

-- the term of the line's number is that of the line
abbrev pub IsNamedRightly : (nodes : List Tree) → NamedLines → (line : ℕ) → Type 0
IsNamedRightly nodes l n = named (numbered_at nodes l) n ≡ named (lines_at nodes l) n
