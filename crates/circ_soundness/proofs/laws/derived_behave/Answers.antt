use Rattle.circ_soundness.proofs.Sound.{derived_behave}
use Rattle.circ_soundness.proofs.laws.derived_behave.Goals as goal

pub returns : goal.returns
returns c = λ th ok p f dss d ds i g j. derived_behave th ok p f dss d ds i g j
