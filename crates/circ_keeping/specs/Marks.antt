-- Marks on the terms of a table from a number on.
use Rattle.std.specs.Prelude.{◌≡◌, ◌⊎◌, ℕ, ◌+◌, ◌≤◌, Bool, true, false, List, length, slice_index_or, Some}
use Rattle.std.specs.List.{slice_get}
use Rattle.circ_term.specs.Tree.{Tree, args_of}
use Rattle.circ_nodes.specs.Named.{IsNamed, IsPart, tree_at}

-- the mark at a place is set
abbrev pub HasMark : List Bool → ℕ → Type 0
HasMark marks i = slice_index_or marks i false ≡ true

-- after it the marks are those of before, and those at such places
pub record SetsMarks (P : ℕ → Type 0) (before after : List Bool) : Type 0 where
  pub long : length after ≡ length before
  pub stay : (i : ℕ) → HasMark before i → HasMark after i
  pub set : (i : ℕ) → P i → HasMark after i
  pub alone : (i : ℕ) → HasMark after i → HasMark before i ⊎ P i

-- the term of number m is an argument of the term of number n
abbrev pub IsArgument : (nodes : List Tree) (m n : ℕ) → Type 0
IsArgument nodes m n = (k : ℕ) × (t : Tree) × (slice_get (args_of (tree_at nodes n)) k ≡ Some t) × IsNamed nodes m t

-- The marks stand at the terms from number count on up to that number: the last is set, those that are set are of its parts, and from a place on each has
-- those of its arguments set.
pub record MarkParts (nodes : List Tree) (count number place : ℕ) (marks : List Bool) : Type 0 where
  pub long : count + length marks ≡ number + 1
  pub last : (i : ℕ) → number ≡ count + i → HasMark marks i
  pub parts : (i : ℕ) → HasMark marks i → IsPart (tree_at nodes number) (tree_at nodes (count + i))
  pub closed : (i j : ℕ) → place ≤ i → HasMark marks i → IsArgument nodes (count + j) (count + i) → HasMark marks j
