use Rattle.std.proofs.Common.{◌+◌, drop, ap}
use Rattle.circ_term.proofs.Within.{drop_read}
use Rattle.circ_moves.specs.Plain.{plain_move, plain_moves}
use Rattle.circ_trace.specs.Used.{move_hypothesis}
use Rattle.circ_trace.proofs.Listing.{one_more}
use Rattle.circ_trace.proofs.used.push_moves.Goals as goal

pub loop-one-preserved : goal.loop-one-preserved
loop-one-preserved c =
    let vs = c.args.moves.now in
    let i = c.loop-one.one-index in
    let x = c.one-item.result in
    one_more move_hypothesis c.loop-one.numbers.items c.push_move.new.numbers.items _ (plain_move x) (plain_moves (drop i vs)) (plain_moves (drop (i + 1) vs))
    (ap plain_moves (drop_read vs i x c.loop-one-test.true c.one-item.is)) c.in_ok-push_move.ensures c.loop-one.invariant
