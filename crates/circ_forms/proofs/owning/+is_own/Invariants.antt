use Rattle.std.proofs.Common.{◌+◌, ◌*◌}
use Rattle.circ_term.specs.Tree.{depth_of}
use Rattle.circ_nodes.specs.Named.{tree_at}
use Rattle.circ_forms.proofs.owning.+is_own.Given as goal

abbrev pub decreases-is_own : goal.decreases-is_own
decreases-is_own l = 2 * depth_of (tree_at l.nodes.now l.number)

abbrev pub decreases-may_join : goal.decreases-may_join
decreases-may_join l = 2 * depth_of (tree_at l.nodes.now l.second) + 1
