use Rattle.std.proofs.Common.{sym, ◌∙◌, arith}
use Rattle.circ_term.proofs.Within.{drop_read, depth_at}
use Rattle.circ_pairs.proofs.Ground.{above-is_ground}
use Rattle.circ_pairs.proofs.fresh.+above.Goals as goal

pub above-returns-then-is_ground-clause-exact : goal.above-returns-then-is_ground-clause-exact
above-returns-then-is_ground-clause-exact t c = sym (above-is_ground c.args.term.now (sym c.is_ground.ensures ∙ c.if-is_ground.true))

pub all_above-above-requires : goal.all_above-above-requires
all_above-above-requires t c =
    let below = depth_at c.args.terms.now c.loop-term.term-index c.term-item.result c.loop-term-test.true c.term-item.is in
    (omega arith, tt)

pub all_above-loop-term-preserved : goal.all_above-loop-term-preserved
all_above-loop-term-preserved t c =
    let read = drop_read c.args.terms.now c.loop-term.term-index c.term-item.result c.loop-term-test.true c.term-item.is in
    let before = rw read at c.loop-term.invariant.0 in
    (omega arith, omega arith)
