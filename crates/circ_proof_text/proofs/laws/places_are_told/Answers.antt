use Rattle.std.specs.Prelude.{[]}
use Rattle.circ_proof_text.proofs.Places.{place_tells, increasing_push, increasing_next}
use Rattle.circ_proof_text.proofs.laws.places_are_told.Goals as goal

pub returns-clause-place : goal.returns-clause-place
returns-clause-place c = place_tells

pub returns-clause-next : goal.returns-clause-next
returns-clause-next c = λ gs g i. (increasing_push gs g i, increasing_next gs g [])
