use Rattle.std.proofs.Common.{arith, ap, length}
use Rattle.std.proofs.lemmas.List.{length-set}
use Rattle.circ_term.proofs.node.rebuilt.Goals as goal

pub app-requires : goal.app-requires
app-requires c = omega (arith, c.requires.few, ap length c.in_ok-args.ensures, length-set c.args.args.now c.args.place c.args.arg)
