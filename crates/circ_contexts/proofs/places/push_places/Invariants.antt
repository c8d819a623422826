use Rattle.std.proofs.Common.{drop}
use Rattle.std.specs.List.{slice_get}
use Rattle.circ_special.specs.Special.{IsPlace}
use Rattle.circ_contexts.specs.Candidates.{AddsKept, places_at}
use Rattle.circ_contexts.proofs.places.push_places.Given as goal

abbrev pub invariant-loop-number : goal.invariant-loop-number
invariant-loop-number l =
    let all = places_at l.op (slice_get l.theory.signature.ops l.op) in
    AddsKept (IsPlace l.theory) all (drop l.number all) l.initial.places.items l.places.items
