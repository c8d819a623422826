use Rattle.circ_written.proofs.Ropes.{kind_is}
use Rattle.circ_written.proofs.nodes.kind_at.Goals as goal

pub returns : goal.returns
returns c =
    kind_is c.args.nodes.now c.requires.nodes c.args.number c.index-nodes-number.result c.index-nodes-number.is c.requires.within c.is_row.result c.is_row.ensures
