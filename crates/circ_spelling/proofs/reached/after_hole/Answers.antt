use Rattle.std.proofs.Common.{arith}
use Rattle.circ_spelling.proofs.May.{hole_past}
use Rattle.circ_spelling.proofs.reached.after_hole.Goals as goal

pub loop-place-init : goal.loop-place-init
loop-place-init c = λ m a b. absurd (omega arith)

pub loop-place-preserved : goal.loop-place-preserved
loop-place-preserved c =
    let p = c.past_hole-out.ensures in
    hole_past c.args.starts.now c.args.sort c.args.low c.loop-place.place c.args.reached c.loop-place.out c.past_hole-out.result c.loop-place.invariant p.stay p.here

pub returns : goal.returns
returns c = λ m a b h. c.loop-place.invariant m a (omega arith) h
