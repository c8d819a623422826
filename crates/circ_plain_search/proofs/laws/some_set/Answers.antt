use Rattle.circ_plain_search.proofs.Existing.{some_set}
use Rattle.circ_plain_search.proofs.laws.some_set.Goals as goal

pub returns : goal.returns
returns c = some_set
