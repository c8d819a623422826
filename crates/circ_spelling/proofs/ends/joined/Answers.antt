use Rattle.std.proofs.Common.{refl}
use Rattle.circ_spelling.proofs.Bits.{more_keeps, others_keeps}
use Rattle.circ_spelling.proofs.ends.joined.Goals as goal

pub returns : goal.returns
returns c = record { some = more_keeps c.args.some _ _ _ refl refl; others = others_keeps c.args.others _ _ _ refl refl }
