use Rattle.std.proofs.Common.{◌≡◌, ◌+◌, ◌*◌, drop}
use Rattle.circ_term.specs.Tree.{trees_of, depth_of, depths_of}
use Rattle.circ_own_rules.specs.TermOrder.{terms_order}
use Rattle.circ_own_rules.proofs.below.+compare.Given as goal

abbrev pub decreases-compare : goal.decreases-compare
decreases-compare l = 3 * depth_of l.term.now

abbrev pub decreases-compare_to : goal.decreases-compare_to
decreases-compare_to l = 3 * depth_of l.term.now + 1

abbrev pub decreases-compare_all : goal.decreases-compare_all
decreases-compare_all l = 3 * depths_of (trees_of l.terms.now) + 2

abbrev pub invariant-compare_all-loop-i : goal.invariant-compare_all-loop-i
invariant-compare_all-loop-i l = terms_order (trees_of (drop l.i l.terms)) (trees_of (drop l.i l.others)) ≡ terms_order (trees_of l.terms) (trees_of l.others)
