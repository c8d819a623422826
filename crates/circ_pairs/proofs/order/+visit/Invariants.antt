use Rattle.std.proofs.Common.{◌≡◌, ◌≤◌, ◌+◌, ◌*◌, ◌^◌, length, drop}
use Rattle.circ_term.specs.Tree.{depth_of, depths_of, trees_of}
use Rattle.circ_pairs.specs.Variables.{seen_in_all, numbered}
use Rattle.circ_pairs.proofs.order.+visit.Given as goal

abbrev pub invariant-visit_all-loop-term : goal.invariant-visit_all-loop-term
invariant-visit_all-loop-term l =
    (seen_in_all (trees_of (drop l.term-index l.terms)) (numbered 0 l.sorts.items) ≡ seen_in_all (trees_of l.terms) (numbered 0 l.initial.sorts.items))
    × (length l.initial.sorts.items ≤ 2 ^ 32 → length l.sorts.items ≤ 2 ^ 32)

abbrev pub decreases-visit : goal.decreases-visit
decreases-visit l = 2 * depth_of l.term.now

abbrev pub decreases-visit_all : goal.decreases-visit_all
decreases-visit_all l = 2 * depths_of (trees_of l.terms.now) + 1
