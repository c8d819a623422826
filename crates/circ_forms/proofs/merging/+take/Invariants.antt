use Rattle.std.proofs.Common.{◌+◌, ◌*◌}
use Rattle.circ_term.specs.Tree.{depth_of}
use Rattle.circ_nodes.specs.Named.{tree_at}
use Rattle.circ_forms.proofs.merging.+take.Given as goal

abbrev pub decreases-take_in_order : goal.decreases-take_in_order
decreases-take_in_order l = 2 * (depth_of (tree_at l.nodes.now l.first) + depth_of (tree_at l.nodes.now l.second)) + 1

abbrev pub decreases-behind_first : goal.decreases-behind_first
decreases-behind_first l = 2 * (depth_of (tree_at l.nodes.now l.first) + depth_of (tree_at l.nodes.now l.second))

abbrev pub decreases-behind_second : goal.decreases-behind_second
decreases-behind_second l = 2 * (depth_of (tree_at l.nodes.now l.first) + depth_of (tree_at l.nodes.now l.second))
