use Rattle.std.proofs.Common.{arith}
use Rattle.circ_term.proofs.Within.{depth_at}
use Rattle.circ_split.proofs.opening.+first_open.Goals as goal

pub first_open_in-first_open-requires : goal.first_open_in-first_open-requires
first_open_in-first_open-requires t c = (omega (arith, depth_at c.args.terms.now c.loop-term.term-index c.term-item.result c.loop-term-test.true c.term-item.is), tt)
