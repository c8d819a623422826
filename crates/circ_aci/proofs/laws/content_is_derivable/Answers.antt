use Rattle.circ_aci.proofs.Deriving.{same_content_derivable}
use Rattle.circ_aci.proofs.laws.content_is_derivable.Goals as goal

pub returns : goal.returns
returns c = λ th ok H f old new p q h. same_content_derivable th ok H f h.operator h.there old new p q h.same_content
