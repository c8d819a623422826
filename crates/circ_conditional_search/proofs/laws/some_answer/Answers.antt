use Rattle.circ_conditional_search.proofs.Founds.{some_found}
use Rattle.circ_conditional_search.proofs.laws.some_answer.Goals as goal

pub returns : goal.returns
returns c = some_found
