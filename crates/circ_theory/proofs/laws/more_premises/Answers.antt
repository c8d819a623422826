use Rattle.circ_theory.proofs.Weakening.{weaken}
use Rattle.circ_theory.proofs.laws.more_premises.Goals as goal

pub returns : goal.returns
returns c = λ th H K s t w d. weaken th d K w
