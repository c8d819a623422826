use Rattle.circ_nodes.specs.Named.{tree_at}
use Rattle.circ_nodes.proofs.Weighing.{weight_small}
use Rattle.circ_nodes.proofs.nodes.Nodes.size.Goals as goal

pub returns-clause-small : goal.returns-clause-small
returns-clause-small c = (weight_small c.weight.result (tree_at c.args.self.now c.args.number) c.weight.ensures).0
