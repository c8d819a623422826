use Rattle.circ_proof_text.proofs.Standing.{ends, ends_badly}
use Rattle.circ_proof_text.proofs.reading.reading_ends.Goals as goal

pub returns-clause-whole : goal.returns-clause-whole
returns-clause-whole c = ends

pub returns-clause-broken_off : goal.returns-clause-broken_off
returns-clause-broken_off c = ends_badly
