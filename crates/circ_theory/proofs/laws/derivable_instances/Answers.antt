use Rattle.circ_theory.proofs.Instances.{derivable_instance}
use Rattle.circ_theory.proofs.laws.derivable_instances.Goals as goal

pub returns : goal.returns
returns c = λ th H s t σ w d. derivable_instance th σ w d
