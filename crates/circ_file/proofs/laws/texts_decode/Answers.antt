use Rattle.circ_file.proofs.Encoded.{can_be_written, given_back}
use Rattle.circ_file.proofs.laws.texts_decode.Goals as goal

pub returns-clause-written : goal.returns-clause-written
returns-clause-written c = can_be_written

pub returns-clause-back : goal.returns-clause-back
returns-clause-back c = given_back
