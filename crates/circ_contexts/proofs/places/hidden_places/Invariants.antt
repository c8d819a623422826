use Rattle.std.proofs.Common.{[], drop}
use Rattle.circ_special.specs.Special.{IsPlace}
use Rattle.circ_plain_search.specs.Places.{all_places}
use Rattle.circ_contexts.specs.Candidates.{AddsKept}
use Rattle.circ_contexts.proofs.places.hidden_places.Given as goal

abbrev pub invariant-loop-op : goal.invariant-loop-op
invariant-loop-op l =
    AddsKept (IsPlace l.theory) (all_places 0 l.theory.signature.ops) (all_places l.op (drop l.op l.theory.signature.ops)) [] l.places.items
