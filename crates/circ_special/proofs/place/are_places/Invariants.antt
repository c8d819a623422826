use Rattle.std.proofs.Common.{◌↔◌, drop}
use Rattle.std.specs.List.{AllByRecursion}
use Rattle.circ_special.specs.Special.{IsPlace}
use Rattle.circ_special.proofs.place.are_places.Given as goal

abbrev pub invariant-loop-place : goal.invariant-loop-place
invariant-loop-place l = AllByRecursion (IsPlace l.theory) (drop l.place-index l.places) ↔ AllByRecursion (IsPlace l.theory) l.places
