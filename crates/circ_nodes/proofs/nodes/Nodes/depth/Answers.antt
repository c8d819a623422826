use Rattle.circ_nodes.specs.Named.{tree_at}
use Rattle.circ_nodes.proofs.Weighing.{weight_small}
use Rattle.circ_nodes.proofs.nodes.Nodes.depth.Goals as goal

pub returns-clause-shallow : goal.returns-clause-shallow
returns-clause-shallow c = (weight_small c.weight.result (tree_at c.args.self.now c.args.number) c.weight.ensures).1
