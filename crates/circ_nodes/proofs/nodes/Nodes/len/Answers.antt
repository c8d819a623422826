use Rattle.std.proofs.Common.{ap, arith, length}
use Rattle.circ_nodes.proofs.Laying.{length_weights}
use Rattle.circ_nodes.proofs.nodes.Nodes.len.Goals as goal

pub returns : goal.returns
returns c = omega (arith, c.len.ensures, c.self.invariant.kept.weighted, length_weights c.self.inside.rows.rows.items, c.self.inside.rows.rows.ok.0, ap length c.self.view_is)
