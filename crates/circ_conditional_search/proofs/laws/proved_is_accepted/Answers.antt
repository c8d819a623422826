use Rattle.circ_conditional_search.proofs.Accepting.{proved_accepted}
use Rattle.circ_conditional_search.proofs.laws.proved_is_accepted.Goals as goal

pub returns : goal.returns
returns c = proved_accepted
