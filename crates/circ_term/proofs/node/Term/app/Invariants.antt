use Rattle.std.proofs.Common.{◌≡◌, ◌≤◌, ◌+◌, ◌*◌, ◌&&◌, max, drop}
use Rattle.circ_term.specs.Tree.{trees_of, sizes_of, depths_of, are_ground}
use Rattle.circ_term.specs.Fingerprint.{mixed, fingerprint_after}
use Rattle.circ_term.specs.Limits.{node_limit, depth_limit, first_limits}
use Rattle.circ_term.proofs.node.Term.app.Given as goal

abbrev pub invariant-loop-arg : goal.invariant-loop-arg
invariant-loop-arg l = record {
  sizes : l.size + sizes_of (trees_of (drop l.arg-index l.arg-items)) ≡ sizes_of (trees_of l.arg-items) + 1;
  depths : max l.depth (depths_of (trees_of (drop l.arg-index l.arg-items))) ≡ depths_of (trees_of l.arg-items);
  limits : first_limits (trees_of (drop l.arg-index l.arg-items)) ≡ first_limits (trees_of l.arg-items);
  without_variable : (l.is_ground && are_ground (trees_of (drop l.arg-index l.arg-items))) ≡ are_ground (trees_of l.arg-items);
  fingerprint : fingerprint_after l.fingerprint (trees_of (drop l.arg-index l.arg-items)) ≡ fingerprint_after (mixed (mixed 2 l.fn.op) l.fn.sort) (trees_of l.arg-items);
  few : l.size ≤ l.arg-index * node_limit + 1;
  depth_small : l.depth ≤ depth_limit;
}
