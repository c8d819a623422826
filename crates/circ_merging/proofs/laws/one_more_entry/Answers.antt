use Rattle.circ_merging.proofs.Putting.{one_more}
use Rattle.circ_merging.proofs.laws.one_more_entry.Goals as goal

pub returns : goal.returns
returns c = one_more
