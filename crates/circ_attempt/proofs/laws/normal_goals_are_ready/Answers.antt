use Rattle.circ_attempt.proofs.Coming.{normal_goal_ready}
use Rattle.circ_attempt.proofs.laws.normal_goals_are_ready.Goals as goal

pub returns : goal.returns
returns c = λ th wf G l blocks can x c g rest is n e. normal_goal_ready th wf G l blocks can x c g rest is n e
