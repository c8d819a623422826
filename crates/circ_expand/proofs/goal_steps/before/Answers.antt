use Rattle.std.proofs.Common.{◌≡◌, ◌+◌, ◌==◌, if◌then◌else◌, ℕ, Bool, Option, Some, drop, take, length, subst, arith, length-take}
use Rattle.std.specs.Option.{IfSome}
use Rattle.circ_theory.specs.Theory.{Derivative}
use Rattle.circ_tasks.specs.Tasks.{holes_before}
use Rattle.circ_uses.proofs.Guarding.{some_at}
use Rattle.circ_expand.proofs.Earlier.{holes_next, holes_done}
use Rattle.circ_expand.proofs.goal_steps.before.Goals as goal

pub overflow_add-count : goal.overflow_add-count
overflow_add-count c = omega (arith, c.loop-number.invariant.within, c.holes-count.ensures.few, c.loop-number-test.true)

pub loop-number-preserved : goal.loop-number-preserved
loop-number-preserved c =
    let ds = c.args.frame.now.theory.now.derivatives in
    let s = c.args.sort in
    let k = c.loop-number.number in
    let there = some_at ds k (omega (arith, c.loop-number-test.true, c.requires)) in
    let P : Option Derivative → Type 0 = λ o. IfSome o (λ d. c.holes-count.result ≡ (if d.hole == s then 1 else 0)) in
    let here : P (Some there.0) = subst P there.1 c.holes-count.ensures.holes in
    let next = holes_next ds c.args.derivative s k there.0 (omega (arith, c.loop-number-test.true)) there.1 in
    record {
      within = omega (arith, c.loop-number.invariant.within, c.holes-count.ensures.few);
      same = omega (arith, next, here, c.loop-number.invariant.same);
    }

pub returns : goal.returns
returns c =
    let ds = c.args.frame.now.theory.now.derivatives in
    let done = holes_done c.args.sort (take c.args.derivative ds) c.loop-number.number
    (omega (arith, length-take c.args.derivative ds, c.loop-number-test.false)) in
    omega (arith, done, c.loop-number.invariant.same)
