use Rattle.circ_merging.proofs.Sums.{one_summand_at_the_end}
use Rattle.circ_merging.proofs.laws.one_more_summand_at_the_end.Goals as goal

pub returns : goal.returns
returns c = one_summand_at_the_end
