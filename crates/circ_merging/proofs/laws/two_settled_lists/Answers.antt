use Rattle.circ_merging.proofs.Merging.{two_lists}
use Rattle.circ_merging.proofs.laws.two_settled_lists.Goals as goal

pub returns : goal.returns
returns c = two_lists
