use Rattle.circ_conditional_search.proofs.Coming.{normal_goal_ready}
use Rattle.circ_conditional_search.proofs.laws.normal_goals_are_ready.Goals as goal

pub returns : goal.returns
returns c = λ th wf G m blocks. normal_goal_ready th wf G m blocks
