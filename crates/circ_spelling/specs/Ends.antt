-- Sets of places, as bits.
use Rattle.std.specs.Prelude.{◌≡◌, ◌<◌, ◌≤◌, ◌-◌, ◌^◌, ℕ, List, Option, Some, None}
use Rattle.std.specs.List.{slice_get}
use Rattle.std.specs.Int.{bit_at}
use Rattle.circ_spelling.specs.declared.ends.Ends.{Ends}
use Rattle.circ_spelling.specs.declared.starts.Starts.{Starts}

-- the place is in the set
unfoldable pub Has : Ends → ℕ → Type 0
Has e m = (m < 128 → bit_at e.low m ≡ 1) × (128 ≤ m → m < 256 → bit_at e.high (m - 128) ≡ 1)

-- what is in one set is in the other
abbrev pub Keeps : Ends → Ends → Type 0
Keeps some others = (m : ℕ) → Has some m → Has others m

abbrev pub every_place : Ends
every_place = record { low = 2 ^ 128 - 1; high = 2 ^ 128 - 1 }

abbrev pub ends_in : Option Ends → Ends
ends_in None = every_place
ends_in (Some e) = e

abbrev pub ends_of : Option Starts → ℕ → Ends
ends_of None s = every_place
ends_of (Some row) s = ends_in (slice_get row.ends.items s)

-- where terms of the sort s may end that begin at i; beyond the lists, everywhere
abbrev pub ends_at : List Starts → ℕ → ℕ → Ends
ends_at starts s i = ends_of (slice_get starts i) s
