use Rattle.std.proofs.Common.{◌≡◌, ◌++◌, ◌+◌, ◌*◌, drop}
use Rattle.circ_term.specs.Tree.{depth_of, depths_of, trees_of}
use Rattle.circ_pairs.specs.Slots.{all_holes_in, all_parameters_in, all_parameter_sorts_in}
use Rattle.circ_pairs.proofs.observing.+fill.Given as goal

abbrev pub invariant-fill_all-loop-term : goal.invariant-fill_all-loop-term
invariant-fill_all-loop-term l =
    (l.slots.holes.items ++ all_holes_in (trees_of (drop l.term-index l.terms)) ≡ l.initial.slots.holes.items ++ all_holes_in (trees_of l.terms))
    × (l.slots.params.items ++ all_parameters_in (trees_of (drop l.term-index l.terms)) ≡ l.initial.slots.params.items ++ all_parameters_in (trees_of l.terms))
    × (l.slots.sorts.items ++ all_parameter_sorts_in (trees_of (drop l.term-index l.terms)) ≡ l.initial.slots.sorts.items ++ all_parameter_sorts_in (trees_of l.terms))

abbrev pub decreases-fill : goal.decreases-fill
decreases-fill l = 2 * depth_of l.term.now

abbrev pub decreases-fill_all : goal.decreases-fill_all
decreases-fill_all l = 2 * depths_of (trees_of l.terms.now) + 1
