use Rattle.circ_merging.proofs.Merging.{one_at_the_end}
use Rattle.circ_merging.proofs.laws.one_more_entry_at_the_end.Goals as goal

pub returns : goal.returns
returns c = one_at_the_end
