use Rattle.circ_proof_text.proofs.ProofText.{one_reading, one_cause, not_both}
use Rattle.circ_proof_text.proofs.laws.one_answer.Goals as goal

pub returns-clause-proof : goal.returns-clause-proof
returns-clause-proof c = one_reading

pub returns-clause-cause : goal.returns-clause-cause
returns-clause-cause c = one_cause

pub returns-clause-not_both : goal.returns-clause-not_both
returns-clause-not_both c = not_both
