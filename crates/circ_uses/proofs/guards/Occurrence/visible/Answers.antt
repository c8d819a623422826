use Rattle.std.proofs.Common.{◌≡◌, Option, Some, None, take, ap, sym, subst, ◌∙◌, arith}
use Rattle.std.specs.Option.{IfSome, option_map}
use Rattle.circ_theory.specs.Theory.{Derivative}
use Rattle.circ_uses.specs.Guards.{visible_above}
use Rattle.circ_uses.proofs.Guarding.{some_at, visible_next}
use Rattle.circ_uses.proofs.guards.Occurrence.visible.Goals as goal

pub returns-in-Some : goal.returns-in-Some
returns-in-Some c =
    let self = c.args.self.now in
    let ds = self.theory.now.derivatives in
    let k = c.loop-number.number in
    let p = self.path.now in
    let there = some_at ds k (omega (arith, c.loop-number-test.true, c.derivative_count-number-end.ensures.count)) in
    let P : Option Derivative → Type 0 =
    λ o. IfSome o (λ d. option_map (λ n. take n p) c.in_ok-above.field-0 ≡ visible_above self.theory.now d self.term.now p) in
    let here : P (Some there.0) = subst P there.1 c.in_ok-above.ensures in
    sym (visible_next self.theory.now ds self.term.now p k there.0 there.1 (Some c.in-Some.above) (ap (option_map (λ n. take n p)) (sym c.in-Some.is) ∙ here))
    ∙ c.loop-number.invariant

pub loop-number-preserved : goal.loop-number-preserved
loop-number-preserved c =
    let self = c.args.self.now in
    let ds = self.theory.now.derivatives in
    let k = c.loop-number.number in
    let p = self.path.now in
    let there = some_at ds k (omega (arith, c.loop-number-test.true, c.derivative_count-number-end.ensures.count)) in
    let P : Option Derivative → Type 0 =
    λ o. IfSome o (λ d. option_map (λ n. take n p) c.in_ok-above.field-0 ≡ visible_above self.theory.now d self.term.now p) in
    let here : P (Some there.0) = subst P there.1 c.in_ok-above.ensures in
    sym (visible_next self.theory.now ds self.term.now p k there.0 there.1 None (ap (option_map (λ n. take n p)) (sym c.in_default.is) ∙ here))
    ∙ c.loop-number.invariant
