-- Lists of different names.
use Rattle.std.specs.Prelude.{◌≡◌, ℕ, List, Some, map}
use Rattle.std.specs.List.{slice_get}
use Rattle.circ_theory.specs.Theory.{Declared}

-- no name stands at two places
abbrev pub AreDifferent : List (List ℕ) → Type 0
AreDifferent ws = (m n : ℕ) (w : List ℕ) → slice_get ws m ≡ Some w → slice_get ws n ≡ Some w → m ≡ n

abbrev pub names_of : List Declared → List (List ℕ)
names_of vs = map (λ d. d.name) vs
