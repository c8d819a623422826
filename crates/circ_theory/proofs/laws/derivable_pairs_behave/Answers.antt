use Rattle.circ_theory.proofs.Behaviour.{derivable_behaves}
use Rattle.circ_theory.proofs.laws.derivable_pairs_behave.Goals as goal

pub returns : goal.returns
returns c = derivable_behaves
