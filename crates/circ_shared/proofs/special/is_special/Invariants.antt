use Rattle.std.proofs.Common.{◌↔◌, ◌<◌, drop, length}
use Rattle.circ_special.specs.Special.{IsSpecial}
use Rattle.circ_nodes.specs.Named.{tree_at}
use Rattle.circ_shared.proofs.special.is_special.Given as goal

abbrev pub invariant-loop-place : goal.invariant-loop-place
invariant-loop-place l = record {
  there : l.here < length l.nodes;
  rest : IsSpecial l.gamma (tree_at l.nodes l.here) (drop l.place-index l.path) ↔ IsSpecial l.gamma (tree_at l.nodes l.term) l.path;
}
