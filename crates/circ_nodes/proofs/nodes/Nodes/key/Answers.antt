use Rattle.std.proofs.Common.{ap, arith, length}
use Rattle.circ_nodes.proofs.Keying.{keys_long, key_read}
use Rattle.circ_nodes.proofs.nodes.Nodes.key.Goals as goal

pub key-requires : goal.key-requires
key-requires c = omega (arith, c.requires, keys_long c.self.inside.rows c.self.inside.chains c.self.invariant, ap length c.self.view_is)

pub returns : goal.returns
returns c =
    key_read c.self.inside.rows c.self.inside.chains c.self.invariant c.args.self.now c.self.view_is c.args.number c.key.result c.requires c.key.ensures
