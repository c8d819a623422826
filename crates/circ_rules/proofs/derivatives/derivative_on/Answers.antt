use Rattle.std.proofs.Common.{◌∙◌, arith}
use Rattle.circ_proof.proofs.Derivatives.{left_fits, right_fits}
use Rattle.circ_rules.proofs.Making.{is_made, is_not_made}
use Rattle.circ_rules.proofs.derivatives.derivative_on.Goals as goal

pub both_sides-requires-clause-left : goal.both_sides-requires-clause-left
both_sides-requires-clause-left c =
    left_fits c.args.theory.now c.known.ensures c.args.derivative c.args.goal.now c.requires.sorted c.args.fresh c.requires.fresh c.requires.hole
    c.in-Some.sorts.now (rw c.in-Some.is at c.parameter_sorts.ensures) c.as_slice.result.now (c.as_slice.ensures.value ∙ c.in_ok-params.ensures)

pub both_sides-requires-clause-right : goal.both_sides-requires-clause-right
both_sides-requires-clause-right c =
    right_fits c.args.theory.now c.known.ensures c.args.derivative c.args.goal.now c.requires.sorted c.args.fresh c.requires.fresh c.requires.hole
    c.in-Some.sorts.now (rw c.in-Some.is at c.parameter_sorts.ensures) c.as_slice.result.now (c.as_slice.ensures.value ∙ c.in_ok-params.ensures)

pub returns-in-Ok : goal.returns-in-Ok
returns-in-Ok c =
    is_made c.args.theory.now c.known.ensures c.args.derivative c.args.goal.now c.requires.sorted c.args.fresh c.requires.fresh c.requires.hole
    c.in-Some.sorts.now (rw c.in-Some.is at c.parameter_sorts.ensures) (omega (arith, c.if-fresh-sorts.false)) c.as_slice.result.now
    (c.as_slice.ensures.value ∙ c.in_ok-params.ensures) c.in-Ok.goal (rw c.in-Ok.is at c.both_sides.ensures)

pub returns : goal.returns
returns c =
    is_not_made c.args.theory.now c.known.ensures c.args.derivative c.args.goal.now c.requires.sorted c.args.fresh c.requires.fresh c.requires.hole
    c.in-Some.sorts.now (rw c.in-Some.is at c.parameter_sorts.ensures) (omega (arith, c.if-fresh-sorts.false)) c.as_slice.result.now
    (c.as_slice.ensures.value ∙ c.in_ok-params.ensures) c.in-Err.fault (rw c.in-Err.is at c.both_sides.ensures)
