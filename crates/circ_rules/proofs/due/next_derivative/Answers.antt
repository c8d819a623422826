use Rattle.std.proofs.Common.{arith, sym, ◌∙◌}
use Rattle.circ_rules.proofs.Next.{first_taken, first_passed}
use Rattle.circ_rules.proofs.due.next_derivative.Goals as goal

pub returns-then-takes-clause-first : goal.returns-then-takes-clause-first
returns-then-takes-clause-first c =
    first_taken c.args.theory.now c.args.sort c.loop-derivative.derivative c.args.from c.loop-derivative.invariant
    (omega (arith, c.loop-derivative-test.true, c.derivative_count-derivative-end.ensures.count)) (sym c.takes.ensures ∙ c.if-takes.true)

pub loop-derivative-preserved : goal.loop-derivative-preserved
loop-derivative-preserved c =
    first_passed c.args.theory.now c.args.sort c.loop-derivative.derivative c.args.from c.loop-derivative.invariant
    (omega (arith, c.loop-derivative-test.true, c.derivative_count-derivative-end.ensures.count)) (sym c.takes.ensures ∙ c.if-takes.false)
