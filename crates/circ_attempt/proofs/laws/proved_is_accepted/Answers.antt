use Rattle.circ_attempt.proofs.Founds.{proved_accepted}
use Rattle.circ_attempt.proofs.laws.proved_is_accepted.Goals as goal

pub returns : goal.returns
returns c = proved_accepted
