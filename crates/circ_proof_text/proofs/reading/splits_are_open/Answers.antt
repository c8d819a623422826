use Rattle.circ_proof_text.proofs.Standing.{open_splits}
use Rattle.circ_proof_text.proofs.reading.splits_are_open.Goals as goal

pub returns : goal.returns
returns c = open_splits
