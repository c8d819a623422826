use Rattle.std.proofs.Common.{◌≡◌, ◌≤◌, ◌+◌, ◌*◌, drop}
use Rattle.std.specs.Ordering.{ordering_then}
use Rattle.circ_term.specs.Tree.{trees_of, depth_of, depths_of, sizes_of}
use Rattle.circ_term.specs.Subst.{substitution_of}
use Rattle.circ_term.specs.Substitution.{instances}
use Rattle.circ_own_rules.specs.TermOrder.{terms_order}
use Rattle.circ_own_rules.proofs.below.+compare_instance.Given as goal

abbrev pub decreases-compare_instance : goal.decreases-compare_instance
decreases-compare_instance l = 3 * depth_of l.pattern.now

abbrev pub decreases-compare_next : goal.decreases-compare_next
decreases-compare_next l = 3 * depth_of l.pattern.now + 1

abbrev pub decreases-compare_instances : goal.decreases-compare_instances
decreases-compare_instances l = 3 * depths_of (trees_of l.patterns.now) + 2

abbrev pub invariant-compare_instances-loop-i : goal.invariant-compare_instances-loop-i
invariant-compare_instances-loop-i l = record {
  size :
      l.size + sizes_of (instances (substitution_of l.subst) (trees_of (drop l.i l.patterns)))
      ≡ sizes_of (instances (substitution_of l.subst) (trees_of l.patterns));
  small : l.size + 1000000 * sizes_of (trees_of (drop l.i l.patterns)) ≤ 1000000 * sizes_of (trees_of l.patterns);
  order :
      ordering_then l.order (terms_order (instances (substitution_of l.subst) (trees_of (drop l.i l.patterns))) (trees_of (drop l.i l.terms)))
      ≡ ordering_then l.fn.before (terms_order (instances (substitution_of l.subst) (trees_of l.patterns)) (trees_of l.terms));
}
