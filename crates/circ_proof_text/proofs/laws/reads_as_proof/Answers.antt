use Rattle.circ_proof_text.proofs.ProofText.{reads_text, text_reads}
use Rattle.circ_proof_text.proofs.laws.reads_as_proof.Goals as goal

pub returns-clause-text : goal.returns-clause-text
returns-clause-text c = reads_text

pub returns-clause-proof : goal.returns-clause-proof
returns-clause-proof c = text_reads
