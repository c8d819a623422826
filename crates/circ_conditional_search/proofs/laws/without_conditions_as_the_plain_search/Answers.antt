use Rattle.circ_conditional_search.proofs.BareFound.{to_plain, from_plain}
use Rattle.circ_conditional_search.proofs.laws.without_conditions_as_the_plain_search.Goals as goal

pub returns : goal.returns
returns c = λ th wf blocks a l f. (to_plain th wf blocks a l f, from_plain th wf blocks a l f)
