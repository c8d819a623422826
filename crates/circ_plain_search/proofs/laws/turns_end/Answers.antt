use Rattle.circ_plain_search.proofs.Answers.{turn_less}
use Rattle.circ_plain_search.proofs.laws.turns_end.Goals as goal

pub returns : goal.returns
returns c = λ th G l st next e. turn_less th G l st next e
