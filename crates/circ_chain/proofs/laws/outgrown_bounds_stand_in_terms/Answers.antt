use Rattle.circ_chain.proofs.Chains.{outgrows_breaks, outgrows_up}
use Rattle.circ_chain.proofs.laws.outgrown_bounds_stand_in_terms.Goals as goal

pub returns-clause-past : goal.returns-clause-past
returns-clause-past c = λ due big deep most deepest k left p w t x y l. outgrows_breaks due big deep most deepest k left p w t x y l

pub returns-clause-within : goal.returns-clause-within
returns-clause-within c = λ due big deep most deepest k left p w t x y. outgrows_up due big deep most deepest k left p w t x y
