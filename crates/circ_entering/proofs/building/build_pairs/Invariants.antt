use Rattle.std.proofs.Common.{◌≡◌, ◌++◌, map, drop}
use Rattle.circ_theory.specs.Pairs.{plain_pair}
use Rattle.circ_nodes.specs.Built.{AreBuilt}
use Rattle.circ_shared.specs.Patterns.{pairs_at}
use Rattle.circ_entering.proofs.building.build_pairs.Given as goal

abbrev pub invariant-loop-pair : goal.invariant-loop-pair
invariant-loop-pair l = record {
  built : AreBuilt l.nodes l.terms;
  made : map plain_pair l.made.items ++ pairs_at l.nodes (drop l.pair-index l.pairs) ≡ pairs_at l.nodes l.pairs;
}
