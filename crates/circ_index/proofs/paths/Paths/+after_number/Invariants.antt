use Rattle.std.proofs.Common.{◌≡◌, ◌*◌, ◌+◌, map, drop}
use Rattle.circ_term.specs.Tree.{trees_of}
use Rattle.circ_nodes.specs.Named.{tree_at}
use Rattle.circ_nodes.proofs.Building.{above}
use Rattle.circ_index.specs.Paths.{after_all}
use Rattle.circ_index.proofs.paths.Paths.+after_number.Given as goal

-- arguments have lower numbers
abbrev pub decreases-after_number : goal.decreases-after_number
decreases-after_number l = 2 * l.number + 1

abbrev pub decreases-after_numbers : goal.decreases-after_numbers
decreases-after_numbers l = 2 * above l.numbers.now

abbrev pub invariant-after_numbers-loop-number : goal.invariant-after_numbers-loop-number
invariant-after_numbers-loop-number l =
    after_all l.self.branches.keys l.spots.items (trees_of (map (tree_at l.nodes) (drop l.number-index l.numbers)))
    ≡ after_all l.self.branches.keys l.fn.from.items (trees_of (map (tree_at l.nodes) l.numbers))
