use Rattle.std.proofs.Common.{sym}
use Rattle.circ_proof.specs.PlainProof.{plain_proof}
use Rattle.circ_file.proofs.Encoded.{can_be_written}
use Rattle.circ_file.proofs.laws.decoded_bytes_are_the_text.Goals as goal

pub returns-clause-written : goal.returns-clause-written
returns-clause-written c = λ th bytes p d. can_be_written th (plain_proof p) d.proof_for

pub returns-clause-same : goal.returns-clause-same
returns-clause-same c = λ th bytes p d. sym d.text
