use Rattle.std.proofs.Common.{eqb-true}
use Rattle.circ_spelling.proofs.Bits.{within_keeps}
use Rattle.circ_spelling.proofs.ends.are_within.Goals as goal

pub returns : goal.returns
returns c = λ e. within_keeps c.args.some c.args.others c.if-some-others.false (eqb-true _ _ e)
