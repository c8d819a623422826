use Rattle.circ_top.proofs.Requests.{no_word}
use Rattle.circ_top.proofs.request.numbers.Goals as goal

pub returns-in_default : goal.returns-in_default
returns-in_default c ns a =
    no_word ns c.loop-word.numbers.items c.args.words.now c.loop-word.word-index _ c.loop-word-test.true c.loop-word.invariant.words a c.in_default.ensures
