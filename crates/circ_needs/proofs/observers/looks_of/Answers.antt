use Rattle.std.proofs.Common.{arith}
use Rattle.circ_needs.proofs.Observing.{all_found}
use Rattle.circ_needs.proofs.observers.looks_of.Goals as goal

pub loop-number-init : goal.loop-number-init
loop-number-init c = λ k d l. absurd (omega (arith, l))

pub loop-number-preserved : goal.loop-number-preserved
loop-number-preserved c = c.in_ok-look_at.ensures c.loop-number.invariant

pub returns : goal.returns
returns c =
    all_found c.args.theory.now.derivatives c.loop-number.number c.loop-number.looks.entries
    (omega (arith, c.loop-number-test.false, c.derivative_count-number-end.ensures.count)) c.loop-number.invariant
