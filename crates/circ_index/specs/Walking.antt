-- How the patterns are gone through that can become a term.
use Rattle.std.specs.Prelude.{◌≡◌, ℕ, Bool, true, false, List, ◌++◌}
use Rattle.circ_term.specs.Tree.{Tree}
use Rattle.circ_index.specs.Linked.{Keyed, AreAhead, IsLeast}
use Rattle.circ_index.specs.Paths.{keys_of_term, keys_of_two}
use Rattle.circ_index.specs.declared.finder.Finder.{Finder}
use Rattle.circ_index.specs.declared.walk.Walk.{Walk}

-- the rows along which a walk goes: by keys, or by seats
abbrev pub along : (by_seat : Bool) → Finder → Keyed
along false x = x.rows
along true x = x.seats

-- the keys or the seats that are looked for
abbrev pub sought : (by_seat : Bool) → (keys seats : List ℕ) → List ℕ
sought false keys seats = keys
sought true keys seats = seats

-- The walk stands at the first places at or above `from`. It goes by seats only where these are whole.
pub record IsOnWay (x : Finder) (keys seats : List ℕ) (from : ℕ) (w : Walk) : Type 0 where
  pub leads : AreAhead (along w.by_seat x) (sought w.by_seat keys seats) from w.ahead.items
  pub whole : w.by_seat ≡ true → x.whole ≡ true

-- the seats of left sides that can become a term, and of pairs that can become two terms
abbrev pub term_seats : Finder → (keys : List ℕ) → Tree → List ℕ
term_seats x keys t = keys_of_term x.paths t ++ keys

abbrev pub pair_seats : Finder → (keys : List ℕ) → (a b : Tree) → List ℕ
pair_seats x keys a b = keys_of_two x.paths a b ++ keys

-- The walk is still on its way, and the place is the next.
pub record IsNextOn (x : Finder) (keys seats : List ℕ) (from : ℕ) (w : Walk) (place : ℕ) : Type 0 where
  pub way : IsOnWay x keys seats from w
  pub least : IsLeast w.ahead.items place
