use Rattle.std.proofs.Common.{◌≡◌, ◌+◌, ◌*◌, ◌≤◌, ◌&&◌, max, map, drop}
use Rattle.circ_term.specs.Tree.{trees_of, sizes_of, depths_of, are_ground}
use Rattle.circ_term.specs.Limits.{node_limit, depth_limit, first_limits}
use Rattle.circ_nodes.specs.Named.{tree_at}
use Rattle.circ_nodes.proofs.nodes.Nodes.measure.Given as goal

abbrev pub invariant-loop-number : goal.invariant-loop-number
invariant-loop-number l = record {
  sizes : l.sizes + sizes_of (trees_of (map (tree_at l.self) (drop l.number-index l.numbers))) ≡ sizes_of (trees_of (map (tree_at l.self) l.numbers));
  depths : max l.depths (depths_of (trees_of (map (tree_at l.self) (drop l.number-index l.numbers)))) ≡ depths_of (trees_of (map (tree_at l.self) l.numbers));
  limits : first_limits (trees_of (map (tree_at l.self) (drop l.number-index l.numbers))) ≡ first_limits (trees_of (map (tree_at l.self) l.numbers));
  without_variable : (l.are_ground && are_ground (trees_of (map (tree_at l.self) (drop l.number-index l.numbers)))) ≡ are_ground (trees_of (map (tree_at l.self) l.numbers));
  few : l.sizes ≤ l.number-index * node_limit;
  shallow : l.depths ≤ depth_limit;
}
