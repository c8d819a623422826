use Rattle.std.proofs.Common.{◌↔◌, ◌+◌, ◌*◌, drop}
use Rattle.circ_term.specs.Tree.{trees_of, depth_of, depths_of}
use Rattle.circ_theory.specs.Signature.{HaveSorts}
use Rattle.circ_theory.proofs.theories.Theory.+well_sorted.Given as goal

abbrev pub decreases-well_sorted : goal.decreases-well_sorted
decreases-well_sorted l = 2 * depth_of l.term.now

abbrev pub decreases-have_sorts : goal.decreases-have_sorts
decreases-have_sorts l = 2 * depths_of (trees_of l.terms.now) + 1

abbrev pub invariant-have_sorts-loop-i : goal.invariant-have_sorts-loop-i
invariant-have_sorts-loop-i l = HaveSorts l.self.signature (trees_of (drop l.i l.terms)) (drop l.i l.sorts) ↔ HaveSorts l.self.signature (trees_of l.terms) l.sorts
