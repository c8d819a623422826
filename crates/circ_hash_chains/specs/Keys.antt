-- Numbers by their keys.
use Rattle.std.specs.Prelude.{◌≡◌, ◌<◌, ℕ, List, Option, Some, None}
use Rattle.std.specs.List.{slice_get}

-- the last number below a bound that has the key, or that there is none
abbrev pub IsLastBelow : (keys : List ℕ) (key bound : ℕ) → Option ℕ → Type 0
IsLastBelow keys key bound (Some n) =
    (n < bound) × (slice_get keys n ≡ Some key) × ((m : ℕ) → n < m → m < bound → slice_get keys m ≡ Some key → ⊥)
IsLastBelow keys key bound None = (m : ℕ) → m < bound → slice_get keys m ≡ Some key → ⊥
