use Rattle.circ_chain.proofs.Unique.{reduces_unique}
use Rattle.circ_chain.proofs.laws.normal_forms_are_unique.Goals as goal

pub returns : goal.returns
returns c = λ due big deep most deepest ts us t v x r s. reduces_unique due big deep most deepest ts us t v x r s
