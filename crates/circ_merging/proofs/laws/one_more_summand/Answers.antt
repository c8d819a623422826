use Rattle.circ_merging.proofs.Sums.{one_summand}
use Rattle.circ_merging.proofs.laws.one_more_summand.Goals as goal

pub returns : goal.returns
returns c = one_summand
