-- What a finder keeps of its patterns: the rows have their keys, and the rows of leaves have their leaves or their keys.
use Rattle.std.specs.Prelude.{◌≡◌, ◌⊎◌, ◌<◌, ◌^◌, ℕ, Bool, true, false, List, [], ◌∷◌, length, map, Option, Some}
use Rattle.circ_term.specs.Tree.{Tree}
use Rattle.circ_index.specs.Finding.{both_ways}
use Rattle.circ_index.specs.Keys.{left_key, pair_key}
use Rattle.circ_index.specs.Linked.{Keyed}
use Rattle.circ_index.specs.Paths.{key_of_left, key_of_pair}
use Rattle.circ_index.specs.declared.finder.Finder.{Finder}

-- a pattern stands by its leaf, if it has one, or by its key
abbrev pub IsSeat : (leaf : Option ℕ) → (key seat : ℕ) → Type 0
IsSeat leaf key seat = (leaf ≡ Some seat) ⊎ (seat ≡ key)

-- each pattern has its seat
abbrev pub AreSeats : {X : Type 0} → (leaf_of : X → Option ℕ) → (key_of : X → ℕ) → List X → (seats : List ℕ) → Type 0
AreSeats leaf_of key_of [] [] = Unit {0}
AreSeats leaf_of key_of [] (k ∷ ks) = ⊥
AreSeats leaf_of key_of (p ∷ ps) [] = ⊥
AreSeats leaf_of key_of (p ∷ ps) (k ∷ ks) = IsSeat (leaf_of p) (key_of p) k × AreSeats leaf_of key_of ps ks

-- the same, where the seats are whole
abbrev pub HaveSeats : {X : Type 0} → (whole : Bool) → (leaf_of : X → Option ℕ) → (key_of : X → ℕ) → List X → Keyed → Type 0
HaveSeats false leaf_of key_of patterns x = Unit {0}
HaveSeats true leaf_of key_of patterns x = AreSeats leaf_of key_of patterns x.keys

-- A finder has these left sides.
pub record HasLefts (x : Finder) (lefts : List Tree) : Type 0 where
  pub keys : x.rows.keys ≡ map left_key lefts
  pub seats : HaveSeats x.whole (key_of_left x.paths) left_key lefts x.seats

-- A finder has these pairs, each both ways.
pub record HasPairs (x : Finder) (pairs : List (Tree × Tree)) : Type 0 where
  pub keys : x.rows.keys ≡ map pair_key (both_ways pairs)
  pub seats : HaveSeats x.whole (key_of_pair x.paths) pair_key (both_ways pairs) x.seats

-- The finder is that of the left sides, which are few.
pub record AreLefts (lefts : List Tree) (x : Finder) : Type 0 where
  pub has : HasLefts x lefts
  pub few : length lefts < 2 ^ 32

-- The finder is that of the pairs, which are few.
pub record ArePairs (pairs : List (Tree × Tree)) (x : Finder) : Type 0 where
  pub has : HasPairs x pairs
  pub few : length pairs < 2 ^ 31
