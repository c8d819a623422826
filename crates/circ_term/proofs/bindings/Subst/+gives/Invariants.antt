use Rattle.std.proofs.Common.{◌≡◌, ◌↔◌, drop, ◌+◌, ◌*◌}
use Rattle.circ_term.specs.Tree.{trees_of, depth_of, depths_of}
use Rattle.circ_term.specs.Substitution.{instances}
use Rattle.circ_term.specs.Subst.{substitution_of}
use Rattle.circ_term.proofs.bindings.Subst.+gives.Given as goal

abbrev pub decreases-gives : goal.decreases-gives
decreases-gives l = 2 * depth_of l.pattern.now

abbrev pub decreases-gives_all : goal.decreases-gives_all
decreases-gives_all l = 2 * depths_of (trees_of l.patterns.now) + 1

abbrev pub invariant-gives_all-loop-i : goal.invariant-gives_all-loop-i
invariant-gives_all-loop-i l =
    (instances (substitution_of l.self) (trees_of (drop l.i l.patterns)) ≡ trees_of (drop l.i l.terms))
    ↔ (instances (substitution_of l.self) (trees_of l.patterns) ≡ trees_of l.terms)
