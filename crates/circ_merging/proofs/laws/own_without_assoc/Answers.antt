use Rattle.circ_aci.proofs.Rows.{two_told}
use Rattle.circ_merging.proofs.laws.own_without_assoc.Goals as goal

pub returns : goal.returns
returns c = two_told
