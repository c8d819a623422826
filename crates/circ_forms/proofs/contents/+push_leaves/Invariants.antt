use Rattle.circ_term.specs.Tree.{depth_of}
use Rattle.circ_nodes.specs.Named.{tree_at}
use Rattle.circ_forms.proofs.contents.+push_leaves.Given as goal

abbrev pub decreases-push_leaves : goal.decreases-push_leaves
decreases-push_leaves l = depth_of (tree_at l.nodes.now l.number)
