-- Lists of different texts, which go by their places.
use Rattle.std.specs.Prelude.{◌≡◌, ◌≤◌, ◌+◌, ℕ, List, [], ◌∷◌, ◌++◌, Option, Some, None, nat_eq, if◌then◌else◌, length, codes}
use Rattle.std.specs.List.{slice_get, list_any}
use Rattle.std.specs.Cmp.Lexicographic.{pointwise}

-- the place of the text
abbrev pub IsNumber : List (List ℕ) → List ℕ → Option ℕ → Type 0
IsNumber ws w (Some n) = slice_get ws n ≡ Some w
IsNumber ws w None = (n : ℕ) → slice_get ws n ≡ Some w → ⊥

-- the list with the text, which goes last if it is not there
abbrev pub with_text : List (List ℕ) → List ℕ → List (List ℕ)
with_text ws w = if list_any (pointwise nat_eq w) ws then ws else ws ++ w ∷ []

-- All texts keep their places, and at most n are new.
pub record GrowsTo (ws vs : List (List ℕ)) (n : ℕ) : Type 0 where
  pub kept : (i : ℕ) (w : List ℕ) → slice_get ws i ≡ Some w → slice_get vs i ≡ Some w
  pub longer : length ws ≤ length vs
  pub few : length vs ≤ length ws + n

-- the parentheses come first, and then the empty text, which is the hole's name
pub record BeginAlike (ws : List (List ℕ)) : Type 0 where
  pub opening : slice_get ws 0 ≡ Some (codes "(")
  pub closing : slice_get ws 1 ≡ Some (codes ")")
  pub hole : slice_get ws 2 ≡ Some []
