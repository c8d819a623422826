use Rattle.std.proofs.Common.{◌≡◌, ◌+◌, ◌*◌, drop, map}
use Rattle.circ_term.specs.Tree.{depth_of, depths_of, trees_of}
use Rattle.circ_pairs.specs.Variables.{seen_in_all}
use Rattle.circ_pairs.specs.Occurring.{variable_of}
use Rattle.circ_pairs.proofs.renumber.+gather.Given as goal

abbrev pub invariant-gather_all-loop-term : goal.invariant-gather_all-loop-term
invariant-gather_all-loop-term l =
    seen_in_all (trees_of (drop l.term-index l.terms)) (map variable_of l.variables.keys) ≡ seen_in_all (trees_of l.terms) (map variable_of l.initial.variables.keys)

abbrev pub decreases-gather : goal.decreases-gather
decreases-gather l = 2 * depth_of l.term.now

abbrev pub decreases-gather_all : goal.decreases-gather_all
decreases-gather_all l = 2 * depths_of (trees_of l.terms.now) + 1
