use Rattle.circ_refute.proofs.Differences.{refutation_right}
use Rattle.circ_refute.proofs.laws.differences_are_right.Goals as goal

pub returns : goal.returns
returns c = λ th ok g s d n. refutation_right th ok g s d n
