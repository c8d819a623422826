use Rattle.circ_refute.proofs.Decisions.{decision_right}
use Rattle.circ_refute.proofs.laws.decisions_are_right.Goals as goal

pub returns : goal.returns
returns c = λ th ok gs a d n. decision_right th ok gs a d n
