use Rattle.circ_aci.proofs.Deriving.{same_content_sort}
use Rattle.circ_aci.proofs.laws.content_keeps_sort.Goals as goal

pub returns : goal.returns
returns c = same_content_sort
