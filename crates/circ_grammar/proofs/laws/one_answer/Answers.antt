use Rattle.circ_grammar.proofs.OneAnswer.{one_proof, one_fault, no_fault}
use Rattle.circ_grammar.proofs.laws.one_answer.Goals as goal

pub returns-clause-proof : goal.returns-clause-proof
returns-clause-proof c = one_proof

pub returns-clause-fault : goal.returns-clause-fault
returns-clause-fault c = one_fault

pub returns-clause-not_both : goal.returns-clause-not_both
returns-clause-not_both c = no_fault
