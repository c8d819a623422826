use Rattle.circ_theory.proofs.Weakening.{cut}
use Rattle.circ_theory.proofs.laws.premises_cut.Goals as goal

pub returns : goal.returns
returns c = λ th H K s t w d. cut th d K w
