use Rattle.circ_nodes.proofs.Located.{tree_named}
use Rattle.circ_nodes.proofs.nodes.Nodes.known_at.Goals as goal

pub returns-clause-named : goal.returns-clause-named
returns-clause-named c = tree_named c.args.self.now c.args.number c.requires
