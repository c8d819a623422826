use Rattle.std.proofs.Common.{◌≡◌, ◌+◌, ◌*◌, drop}
use Rattle.circ_term.specs.Tree.{trees_of, depth_of, depths_of}
use Rattle.circ_term.specs.Order.{trees_cmp}
use Rattle.circ_term.proofs.node.+cmp.Given as goal

abbrev pub decreases-Term::cmp : goal.decreases-Term::cmp
decreases-Term::cmp l = 2 * depth_of l.self.now

abbrev pub decreases-cmp_all : goal.decreases-cmp_all
decreases-cmp_all l = 2 * depths_of (trees_of l.a.now) + 1

abbrev pub invariant-cmp_all-loop-i : goal.invariant-cmp_all-loop-i
invariant-cmp_all-loop-i l = trees_cmp (trees_of (drop l.i l.a)) (trees_of (drop l.i l.b)) ≡ trees_cmp (trees_of l.a) (trees_of l.b)
