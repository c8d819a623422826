use Rattle.circ_script.proofs.Fitting.{script_fit, script_for}
use Rattle.circ_script.proofs.laws.scripts_are_fit.Goals as goal

pub returns-clause-fit : goal.returns-clause-fit
returns-clause-fit c = λ th job bytes s formed r. script_fit th formed job bytes s r

pub returns-clause-is_for : goal.returns-clause-is_for
returns-clause-is_for c = script_for
