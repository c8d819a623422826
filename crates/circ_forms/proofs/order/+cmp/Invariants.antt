use Rattle.std.proofs.Common.{◌≡◌, ◌+◌, ◌*◌, drop, map}
use Rattle.circ_term.specs.Tree.{trees_of, depth_of, depths_of}
use Rattle.circ_term.specs.Order.{trees_cmp}
use Rattle.circ_nodes.specs.Named.{tree_at}
use Rattle.circ_forms.proofs.order.+cmp.Given as goal

abbrev pub decreases-cmp : goal.decreases-cmp
decreases-cmp l = 2 * depth_of (tree_at l.nodes.now l.a)

abbrev pub decreases-cmp_all : goal.decreases-cmp_all
decreases-cmp_all l = 2 * depths_of (trees_of (map (tree_at l.nodes.now) l.a.now)) + 1

abbrev pub invariant-cmp_all-loop-i : goal.invariant-cmp_all-loop-i
invariant-cmp_all-loop-i l =
    trees_cmp (trees_of (map (tree_at l.nodes) (drop l.i l.a))) (trees_of (map (tree_at l.nodes) (drop l.i l.b)))
    ≡ trees_cmp (trees_of (map (tree_at l.nodes) l.a)) (trees_of (map (tree_at l.nodes) l.b))
