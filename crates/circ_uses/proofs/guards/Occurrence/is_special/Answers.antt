use Rattle.circ_expansion.proofs.Casing.{special_is}
use Rattle.circ_uses.proofs.guards.Occurrence.is_special.Goals as goal

pub returns : goal.returns
returns c = special_is c.args.self.now.gamma.now c.args.self.now.term.now c.args.path.now c.on_path.result c.on_path.ensures
