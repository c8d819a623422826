use Rattle.std.proofs.Common.{arith}
use Rattle.circ_term.proofs.Within.{depth_at}
use Rattle.circ_uses.proofs.by.+numbered_in.Goals as goal

pub numbered_in_all-numbered_in-requires : goal.numbered_in_all-numbered_in-requires
numbered_in_all-numbered_in-requires t c =
    let below = depth_at c.args.terms.now c.loop-term.term-index c.term-item.result c.loop-term-test.true c.term-item.is in
    (omega arith, tt)
