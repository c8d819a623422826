use Rattle.std.proofs.Common.{◌++◌, map}
use Rattle.circ_term.specs.Growing.{Grows}
use Rattle.circ_shared.specs.Patterns.{goal_at, IsPattern}
use Rattle.circ_entering.proofs.Entered.{AreEntered}
use Rattle.circ_entering.proofs.entering.enter_hypotheses.Given as goal

abbrev pub invariant-loop-goal : goal.invariant-loop-goal
invariant-loop-goal l = record {
  grows : Grows l.fn.nodes l.nodes;
  entered : AreEntered IsPattern goal_at (map (goal_at l.fn.nodes) l.fn.entered.items ++ l.goals) l.goals l.nodes l.goal-index l.entered.items;
}
