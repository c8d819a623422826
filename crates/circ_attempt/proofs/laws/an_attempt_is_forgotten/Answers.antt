use Rattle.circ_attempt.proofs.Without.{forgotten}
use Rattle.circ_attempt.proofs.laws.an_attempt_is_forgotten.Goals as goal

pub returns : goal.returns
returns c = λ th G m st g rest k is none. forgotten th G m st g rest k is none
