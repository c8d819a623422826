use Rattle.std.proofs.Common.{◌↔◌, drop}
use Rattle.circ_needs.specs.Needs.{HasAll}
use Rattle.circ_needs.specs.Places.{places_of}
use Rattle.circ_needs.proofs.needs.are_in.Given as goal

abbrev pub invariant-loop-need : goal.invariant-loop-need
invariant-loop-need l = HasAll l.gamma (places_of (drop l.need-index l.needs)) ↔ HasAll l.gamma (places_of l.needs)
