use Rattle.circ_aci.proofs.Deriving.{same_content_derivable}
use Rattle.circ_aci.proofs.laws.equal_content.Goals as goal

pub returns : goal.returns
returns c = same_content_derivable
