use Rattle.circ_soundness.proofs.Sound.{goals_behave}
use Rattle.circ_soundness.proofs.laws.goals_behave.Goals as goal

pub returns : goal.returns
returns c = λ th ok p f a b i g j. goals_behave th ok p f a.0 a.1 b i g j
