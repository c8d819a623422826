use Rattle.std.proofs.Common.{◌≡◌, ◌≤◌, ◌+◌, ◌*◌, drop}
use Rattle.circ_term.specs.Tree.{trees_of, depth_of, depths_of, sizes_of}
use Rattle.circ_term.specs.Subst.{substitution_of}
use Rattle.circ_term.specs.Substitution.{instances}
use Rattle.circ_own_rules.proofs.below.+instance_size.Given as goal

abbrev pub decreases-instance_size : goal.decreases-instance_size
decreases-instance_size l = 2 * depth_of l.pattern.now

abbrev pub decreases-instance_sizes : goal.decreases-instance_sizes
decreases-instance_sizes l = 2 * depths_of (trees_of l.patterns.now) + 1

abbrev pub invariant-instance_sizes-loop-pattern : goal.invariant-instance_sizes-loop-pattern
invariant-instance_sizes-loop-pattern l = record {
  size :
      l.size + sizes_of (instances (substitution_of l.subst) (trees_of (drop l.pattern-index l.patterns)))
      ≡ sizes_of (instances (substitution_of l.subst) (trees_of l.patterns));
  small : l.size + 1000000 * sizes_of (trees_of (drop l.pattern-index l.patterns)) ≤ 1000000 * sizes_of (trees_of l.patterns);
}
