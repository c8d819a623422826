use Rattle.std.proofs.Common.{◌≡◌, ◌++◌, map, drop}
use Rattle.circ_nodes.specs.Built.{AreBuilt}
use Rattle.circ_shared.specs.Patterns.{goal_at}
use Rattle.circ_entering.proofs.building.build_hypotheses.Given as goal

abbrev pub invariant-loop-hyp : goal.invariant-loop-hyp
invariant-loop-hyp l = record {
  built : AreBuilt l.nodes l.terms;
  made : l.made.items ++ map (goal_at l.nodes) (drop l.hyp-index l.hyps) ≡ map (goal_at l.nodes) l.hyps;
}
