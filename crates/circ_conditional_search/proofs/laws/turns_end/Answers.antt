use Rattle.circ_conditional_search.proofs.Answers.{turn_less}
use Rattle.circ_conditional_search.proofs.laws.turns_end.Goals as goal

pub returns : goal.returns
returns c = λ th G m st next e. turn_less th G m st next e
