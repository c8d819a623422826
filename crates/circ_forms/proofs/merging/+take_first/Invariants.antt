use Rattle.circ_term.specs.Tree.{depth_of}
use Rattle.circ_nodes.specs.Named.{tree_at}
use Rattle.circ_forms.proofs.merging.+take_first.Given as goal

abbrev pub decreases-take_first : goal.decreases-take_first
decreases-take_first l = depth_of (tree_at l.nodes.now l.first)
