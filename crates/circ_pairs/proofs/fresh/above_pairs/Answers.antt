use Rattle.std.proofs.Common.{arith}
use Rattle.circ_term.proofs.Within.{drop_read}
use Rattle.circ_pairs.proofs.fresh.above_pairs.Goals as goal

pub loop-pair-preserved : goal.loop-pair-preserved
loop-pair-preserved c =
    let read = drop_read c.args.pairs.now c.loop-pair.pair-index c.pair-item.result c.loop-pair-test.true c.pair-item.is in
    let before = rw read at c.loop-pair.invariant.0 in
    (omega arith, omega arith)
