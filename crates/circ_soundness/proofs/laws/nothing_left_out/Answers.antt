use Rattle.circ_soundness.proofs.Failing.{nothing_left_out}
use Rattle.circ_soundness.proofs.laws.nothing_left_out.Goals as goal

pub returns : goal.returns
returns c = λ th p f n a. nothing_left_out th p f n a
