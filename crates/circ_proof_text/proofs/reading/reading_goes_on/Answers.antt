use Rattle.circ_proof_text.proofs.Standing.{starts, keeps_rest, takes_line, hands}
use Rattle.circ_proof_text.proofs.reading.reading_goes_on.Goals as goal

pub returns-clause-nothing : goal.returns-clause-nothing
returns-clause-nothing c = starts

pub returns-clause-bytes : goal.returns-clause-bytes
returns-clause-bytes c = keeps_rest

pub returns-clause-line : goal.returns-clause-line
returns-clause-line c = takes_line

pub returns-clause-part : goal.returns-clause-part
returns-clause-part c = hands
