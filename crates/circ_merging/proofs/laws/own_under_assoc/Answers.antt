use Rattle.circ_merging.proofs.Own.{own_with_assoc}
use Rattle.circ_merging.proofs.laws.own_under_assoc.Goals as goal

pub returns : goal.returns
returns c = own_with_assoc
