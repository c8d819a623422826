use Rattle.circ_conditional_search.proofs.Founds.{one_found}
use Rattle.circ_conditional_search.proofs.laws.one_answer.Goals as goal

pub returns : goal.returns
returns c = one_found
