use Rattle.std.proofs.Common.{◌↔◌, length}
use Rattle.circ_special.specs.Special.{IsIncreasing}
use Rattle.circ_special.proofs.place.are_increasing.Given as goal

abbrev pub invariant-loop-first : goal.invariant-loop-first
invariant-loop-first l = IsIncreasing l.rest ↔ IsIncreasing l.places

abbrev pub decreases-loop-first : goal.decreases-loop-first
decreases-loop-first l = length l.rest
