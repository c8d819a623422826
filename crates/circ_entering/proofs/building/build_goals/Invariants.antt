use Rattle.std.proofs.Common.{◌≡◌, ◌++◌, drop}
use Rattle.circ_nodes.specs.Built.{AreBuilt}
use Rattle.circ_steps.specs.States.{shared_goals}
use Rattle.circ_entering.proofs.building.build_goals.Given as goal

abbrev pub invariant-loop-goal : goal.invariant-loop-goal
invariant-loop-goal l = record {
  built : AreBuilt l.nodes l.terms;
  made : l.made.items ++ shared_goals l.nodes (drop l.goal-index l.goals) ≡ l.initial.made.items ++ shared_goals l.nodes l.goals;
}
