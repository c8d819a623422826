use Rattle.circ_match.proofs.Variables.{variable-instance, instance-variable}
use Rattle.circ_match.proofs.laws.variables_decide.Goals as goal

pub returns : goal.returns
returns c = λ σ τ t. (variable-instance σ τ t, instance-variable σ τ t)
