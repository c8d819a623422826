use Rattle.std.proofs.Common.{arith}
use Rattle.circ_spelling.proofs.May.{leads_on, leads_end}
use Rattle.circ_spelling.proofs.reached.row_ends.Goals as goal

pub loop-place-init : goal.loop-place-init
loop-place-init c = λ j h.
    let x = c.front_at-front.ensures.leads j h in record { place = x.0; low = x.1; has = x.2; rest = x.3 }

pub loop-place-preserved : goal.loop-place-preserved
loop-place-preserved c = λ j h.
    leads_on c.args.tokens.now c.args.starts.now c.args.symbols.now c.loop-place.place _ c.args.from j c.loop-place.reached c.after-reached.result c.loop-place-test.true c.after-reached.ensures (c.loop-place.invariant j h)

pub returns : goal.returns
returns c = λ j h. leads_end c.args.tokens.now c.args.starts.now c.args.symbols.now c.loop-place.place c.args.from j c.loop-place.reached (omega arith) (c.loop-place.invariant j h)
