use Rattle.std.proofs.Common.{refl}
use Rattle.circ_top.specs.Command.{prove, regex, upgrade}
use Rattle.circ_top.proofs.request.of_three.Goals as goal

pub returns-then-is_word : goal.returns-then-is_word
returns-then-is_word c = prove c.args.first.now c.args.second.now c.args.third.now (c.if-is_word.ensures.0 refl) refl

pub returns-then-is_word-2 : goal.returns-then-is_word-2
returns-then-is_word-2 c = regex c.args.first.now c.args.second.now c.args.third.now (c.if-is_word-2.ensures.0 refl) refl

pub returns : goal.returns
returns c = upgrade c.args.first.now c.args.second.now c.args.third.now (c.if-not-is_word.ensures.0 refl) refl
