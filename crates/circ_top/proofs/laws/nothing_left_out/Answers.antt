use Rattle.circ_top.proofs.LeftOut.{proofs_decided, nothing_left}
use Rattle.circ_top.proofs.laws.nothing_left_out.Goals as goal

pub returns : goal.returns
returns c = λ words held h none_is.
    nothing_left c.read_or_refused.ensures (proofs_decided c.nothing_left_out-2.ensures c.nothing_left_out.ensures) c.read_or_refused-2.ensures c.read_or_refused-3.ensures c.some_answer.ensures words held none_is h
