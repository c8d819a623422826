use Rattle.circ_plain_search.proofs.Unique.{one_set}
use Rattle.circ_plain_search.proofs.laws.one_set.Goals as goal

pub returns : goal.returns
returns c = one_set
