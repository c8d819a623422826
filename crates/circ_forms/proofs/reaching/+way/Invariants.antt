use Rattle.circ_term.specs.Tree.{depth_of}
use Rattle.circ_nodes.specs.Named.{tree_at}
use Rattle.circ_forms.proofs.reaching.+way.Given as goal

abbrev pub decreases-way : goal.decreases-way
decreases-way l = depth_of (tree_at l.nodes.now l.number)
