use Rattle.circ_attempt.proofs.Derived.{comes_derived}
use Rattle.circ_attempt.proofs.laws.derives_are_hypotheses.Goals as goal

pub returns : goal.returns
returns c = comes_derived
