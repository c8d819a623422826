use Rattle.std.proofs.Common.{ap}
use Rattle.circ_proof.specs.PlainProof.{plain_proof}
use Rattle.circ_search.specs.Plain.{plain_found}
use Rattle.circ_found.proofs.answering.found_ending.Goals as goal

pub proof_ending-requires : goal.proof_ending-requires
proof_ending-requires c = c.requires (plain_proof c.in-Proved.proof) (ap plain_found c.in-Proved.is)
