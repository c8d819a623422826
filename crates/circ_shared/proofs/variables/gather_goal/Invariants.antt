use Rattle.std.proofs.Common.{[]}
use Rattle.circ_theory.specs.Variables.{seen_in}
use Rattle.circ_nodes.specs.Named.{tree_at}
use Rattle.circ_shared.proofs.Seeing.{GathersPairs}
use Rattle.circ_shared.proofs.variables.gather_goal.Given as goal

abbrev pub invariant-loop-pair : goal.invariant-loop-pair
invariant-loop-pair l =
    GathersPairs l.nodes (seen_in (tree_at l.nodes l.fn.sides.right) (seen_in (tree_at l.nodes l.fn.sides.left) [])) l.conds l.pair-index l.seen.entries l.variables.keys
