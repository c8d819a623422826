-- The places that a special set must have.
use Rattle.std.specs.Prelude.{List}
use Rattle.std.specs.List.{AllByRecursion, Contains}
use Rattle.circ_special.specs.declared.place.Place.{Place}

-- the set has each of the places
abbrev pub HasAll : (G places : List Place) → Type 0
HasAll G gs = AllByRecursion (Contains G) gs

-- no place is lost: a set that has those that are there now has those that were there
abbrev pub NoneLost : (old new : List Place) → Type 0
NoneLost old new = (G : List Place) → HasAll G new → HasAll G old
