use Rattle.std.proofs.Common.{refl}
use Rattle.circ_top.specs.Command.{check, reduce, same, differ, trace}
use Rattle.circ_top.proofs.request.of_two.Goals as goal

pub returns-then-is_word : goal.returns-then-is_word
returns-then-is_word c = reduce c.args.first.now c.args.second.now (c.if-is_word.ensures.0 refl) refl

pub returns-then-is_word-2 : goal.returns-then-is_word-2
returns-then-is_word-2 c = same c.args.first.now c.args.second.now (c.if-is_word-2.ensures.0 refl) refl

pub returns-then-is_word-3 : goal.returns-then-is_word-3
returns-then-is_word-3 c = differ c.args.first.now c.args.second.now (c.if-is_word-3.ensures.0 refl) refl

pub returns-then-is_word-4 : goal.returns-then-is_word-4
returns-then-is_word-4 c = trace c.args.first.now c.args.second.now (c.if-is_word-4.ensures.0 refl) refl

pub returns : goal.returns
returns c = check c.in-Some.report c.args.first.now c.args.second.now c.in-Some.ensures refl
