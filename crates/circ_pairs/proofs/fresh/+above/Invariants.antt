use Rattle.std.proofs.Common.{◌≡◌, ◌≤◌, ◌+◌, ◌*◌, ◌^◌, max, drop}
use Rattle.circ_term.specs.Tree.{depth_of, depths_of, trees_of}
use Rattle.circ_pairs.specs.Fresh.{all_above}
use Rattle.circ_pairs.proofs.fresh.+above.Given as goal

abbrev pub invariant-all_above-loop-term : goal.invariant-all_above-loop-term
invariant-all_above-loop-term l = (max l.most (all_above (trees_of (drop l.term-index l.terms))) ≡ all_above (trees_of l.terms)) × (l.most ≤ 2 ^ 32)

abbrev pub decreases-above : goal.decreases-above
decreases-above l = 2 * depth_of l.term.now

abbrev pub decreases-all_above : goal.decreases-all_above
decreases-all_above l = 2 * depths_of (trees_of l.terms.now) + 1
