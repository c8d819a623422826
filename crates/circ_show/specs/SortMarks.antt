-- A mark for each sort: whether an experiment is known to fit it.
use Rattle.std.specs.Prelude.{◌≡◌, ◌↔◌, ◌+◌, ℕ, List, [], ◌∷◌, Bool, true, false, Option, Some, length, if◌then◌else◌}
use Rattle.std.specs.List.{slice_get}
use Rattle.circ_term.specs.Tree.{sort_of}
use Rattle.circ_theory.specs.Signature.{IsSort}
use Rattle.circ_theory.specs.Theory.{Theory, Derivative, IsHidden, IsVisible}
use Rattle.circ_show.specs.Observed.{IsObserved, IsUnobserved}

-- Marked sorts are observed, the others hidden, and visible ones are marked.
pub record AreSortMarks (th : Theory) (marks : List Bool) : Type 0 where
  pub count : length marks ≡ length th.signature.sorts
  pub hidden : (s : ℕ) → slice_get marks s ≡ Some false → IsHidden th s
  pub sound : (s : ℕ) → slice_get marks s ≡ Some true → IsObserved th s
  pub visible : (s : ℕ) → IsSort th.signature s → IsVisible th s → slice_get marks s ≡ Some true

-- where the result of the derivative is marked, its hole's sort is
abbrev pub CarriesMark : List Bool → Derivative → Type 0
CarriesMark marks d = slice_get marks (sort_of d.body) ≡ Some true → slice_get marks d.hole ≡ Some true

abbrev pub CarriesMarkAt : Theory → List Bool → ℕ → Type 0
CarriesMarkAt th marks n = (d : Derivative) → slice_get th.derivatives n ≡ Some d → CarriesMark marks d

abbrev pub AreClosed : Theory → List Bool → Type 0
AreClosed th marks = (n : ℕ) → CarriesMarkAt th marks n

-- how many sorts are not marked
abbrev pub unmarked : List Bool → ℕ
unmarked [] = 0
unmarked (m ∷ ms) = (if m then 0 else 1) + unmarked ms

abbrev pub is_false : Option Bool → Bool
is_false (Some false) = true
is_false _ = false

abbrev pub is_unmarked : List Bool → ℕ → Bool
is_unmarked marks s = is_false (slice_get marks s)

-- the marks tell which sorts are not observed
abbrev pub TellUnobserved : Theory → List Bool → Type 0
TellUnobserved th marks = (s : ℕ) → (is_unmarked marks s ≡ true) ↔ IsUnobserved th s
