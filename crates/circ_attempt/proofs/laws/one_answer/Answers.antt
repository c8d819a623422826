use Rattle.circ_attempt.proofs.Founds.{one_found}
use Rattle.circ_attempt.proofs.laws.one_answer.Goals as goal

pub returns : goal.returns
returns c = one_found
