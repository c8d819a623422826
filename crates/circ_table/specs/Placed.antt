-- The terms that were asked for, and their places.
use Rattle.std.specs.Prelude.{◌≡◌, ◌⊎◌, ℕ, ◌<◌, ◌^◌, List, length, Some}
use Rattle.std.specs.List.{slice_get}
use Rattle.circ_term.specs.Tree.{Tree}
use Rattle.circ_table.specs.Table.{AreIn}
use Rattle.circ_table.specs.declared.named.TheConstants.{ABSENT}

-- the term of number n stands at place p, if it was asked for
abbrev pub IsPlaced : (table terms : List Tree) (n p : ℕ) → Type 0
IsPlaced table terms n p = (p ≡ ABSENT) ⊎ ((t : Tree) × (slice_get terms p ≡ Some t) × (slice_get table n ≡ Some t))

-- none is new
abbrev pub ArePlacesOf : (old new : List ℕ) → Type 0
ArePlacesOf old new = (n p : ℕ) → slice_get new n ≡ Some p → (p ≡ ABSENT) ⊎ (slice_get old n ≡ Some p)

pub record ArePlaced (table terms : List Tree) (places : List ℕ) : Type 0 where
  pub few : length terms < 2 ^ 32
  pub in_table : AreIn table terms
  pub placed : (n p : ℕ) → slice_get places n ≡ Some p → IsPlaced table terms n p
