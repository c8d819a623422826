use Rattle.std.proofs.Common.{◌≡◌, take}
use Rattle.circ_contexts.specs.Candidates.{places_of}
use Rattle.circ_contexts.proofs.contexts.places_in.Given as goal

abbrev pub invariant-loop-candidate : goal.invariant-loop-candidate
invariant-loop-candidate l = l.places.items ≡ places_of (take l.candidate-index l.candidates)
