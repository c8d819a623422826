use Rattle.circ_proof_text.proofs.ProofText.{some_cause}
use Rattle.circ_proof_text.proofs.laws.nothing_left_out.Goals as goal

pub returns : goal.returns
returns c = some_cause
