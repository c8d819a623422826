use Rattle.circ_attempt.proofs.Founds.{some_found}
use Rattle.circ_attempt.proofs.laws.some_answer.Goals as goal

pub returns : goal.returns
returns c = some_found
