use Rattle.std.proofs.Common.{arith}
use Rattle.circ_spelling.proofs.May.{word_past}
use Rattle.circ_spelling.proofs.reached.after_word.Goals as goal

pub loop-place-init : goal.loop-place-init
loop-place-init c = λ m a b. absurd (omega arith)

pub loop-place-preserved : goal.loop-place-preserved
loop-place-preserved c =
    let p = c.past_word-out.ensures in
    word_past c.args.tokens.now c.args.word c.args.low c.loop-place.place c.args.reached c.loop-place.out c.past_word-out.result c.loop-place.invariant p.stay p.here

pub returns : goal.returns
returns c = λ m a h t. let l = t.inside in c.loop-place.invariant m a (omega arith) h t
