use Rattle.circ_attempt.proofs.Answers.{goes_less}
use Rattle.circ_attempt.proofs.laws.turns_end.Goals as goal

pub returns : goal.returns
returns c = λ th G l x next e. goes_less th G l x next e
