use Rattle.circ_merging.proofs.Sums.{sums}
use Rattle.circ_merging.proofs.laws.two_sums.Goals as goal

pub returns : goal.returns
returns c = sums
