use Rattle.std.proofs.Common.{◌++◌}
use Rattle.circ_term.specs.Growing.{Grows}
use Rattle.circ_steps.specs.States.{shared_goal, shared_goals, IsGoalThere}
use Rattle.circ_entering.proofs.Entered.{AreEntered}
use Rattle.circ_entering.proofs.entering.enter_goals.Given as goal

abbrev pub invariant-loop-goal : goal.invariant-loop-goal
invariant-loop-goal l = record {
  grows : Grows l.fn.nodes l.nodes;
  entered : AreEntered IsGoalThere shared_goal (shared_goals l.fn.nodes l.fn.entered.items ++ l.goals) l.goals l.nodes l.goal-index l.entered.items;
}
