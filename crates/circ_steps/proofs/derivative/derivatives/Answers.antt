use Rattle.std.proofs.Common.{List, ◌+◌, sym, subst, arith}
use Rattle.circ_nodes.proofs.Numbers.{grows_self, grows_more}
use Rattle.circ_proof.proofs.Derivatives.{derivative_at, some_if_at}
use Rattle.circ_steps.specs.declared.derivative.SharedDerivative.{SharedDerivative}
use Rattle.circ_steps.specs.Derivatives.{IsDerivativeAt}
use Rattle.circ_steps.proofs.Numbering.{FirstAt, first_next, first_all}
use Rattle.circ_steps.proofs.derivative.derivatives.Goals as goal

pub loop-number-init : goal.loop-number-init
loop-number-init c =
    let P : List SharedDerivative → Type 0 = FirstAt c.args.theory.now.derivatives c.args.nodes.now 0 in
    record { grows = grows_self c.args.nodes.now; first = subst P (sym c.new-shared.ensures.items) tt }

pub share_derivative-requires : goal.share_derivative-requires
share_derivative-requires c = omega (arith, c.loop-number-test.true, c.derivative_count-number-end.ensures.count)

pub returns-in_err-share_derivative-clause-grows : goal.returns-in_err-share_derivative-clause-grows
returns-in_err-share_derivative-clause-grows c =
    grows_more c.args.nodes.now c.loop-number.nodes c.share_derivative.new.nodes c.loop-number.invariant.grows c.share_derivative.ensures.grows

pub returns-in_err-push-clause-grows : goal.returns-in_err-push-clause-grows
returns-in_err-push-clause-grows c =
    grows_more c.args.nodes.now c.loop-number.nodes c.share_derivative.new.nodes c.loop-number.invariant.grows c.in_ok-share_derivative.ensures.grows

pub loop-number-preserved : goal.loop-number-preserved
loop-number-preserved c =
    let at = c.loop-number in
    let ds = c.args.theory.now.derivatives in
    let new = c.share_derivative.new.nodes in
    let g = c.in_ok-share_derivative.ensures.grows in
    let d = derivative_at ds at.number (omega (arith, c.loop-number-test.true, c.derivative_count-number-end.ensures.count)) in
    let x = c.in_ok-share_derivative.field-0 in
    let is : IsDerivativeAt new d.0 x = some_if_at (λ y. IsDerivativeAt new y x) _ d.0 d.1.there c.in_ok-share_derivative.ensures.derivative in
    let P : List SharedDerivative → Type 0 = FirstAt ds new (at.number + 1) in
    record {
      grows = grows_more c.args.nodes.now at.nodes new at.invariant.grows g;
      first = subst P (sym c.in_ok-push.ensures.items) (first_next ds at.nodes new g at.number at.shared.items d.0 x d.1.there is at.invariant.first);
    }

pub returns-clause-grows : goal.returns-clause-grows
returns-clause-grows c = c.loop-number.invariant.grows

pub returns-clause-derivatives : goal.returns-clause-derivatives
returns-clause-derivatives c =
    let at = c.loop-number in
    first_all c.args.theory.now.derivatives at.nodes at.number at.shared.items
    (omega (arith, c.loop-number-test.false, c.derivative_count-number-end.ensures.count)) at.invariant.first
