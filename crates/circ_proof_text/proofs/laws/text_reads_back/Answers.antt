use Rattle.circ_proof_text.proofs.ProofText.{reads_back}
use Rattle.circ_proof_text.proofs.laws.text_reads_back.Goals as goal

pub returns : goal.returns
returns c = reads_back
