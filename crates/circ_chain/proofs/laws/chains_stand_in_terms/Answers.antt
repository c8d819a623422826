use Rattle.circ_chain.proofs.Chains.{chain_up, out_up, breaks_up}
use Rattle.circ_chain.proofs.laws.chains_stand_in_terms.Goals as goal

pub returns-clause-chain : goal.returns-clause-chain
returns-clause-chain c = λ due big deep most deepest ts p w t v x. chain_up due big deep most deepest ts p w t v x

pub returns-clause-spent : goal.returns-clause-spent
returns-clause-spent c = λ due big deep most deepest k p w t. out_up due big deep most deepest k p w t

pub returns-clause-past : goal.returns-clause-past
returns-clause-past c = λ due big deep most deepest k left p w t l. breaks_up due big deep most deepest k left p w t l
