use Rattle.std.proofs.Common.{ap, ◌∙◌}
use Rattle.circ_uses.specs.Valuations.{valued_by, with_overs}
use Rattle.circ_uses.proofs.Overs.{with_over, overs_last, overs_copied, overs_done}
use Rattle.circ_uses.proofs.by.By.with.Goals as goal

pub loop-old-init : goal.loop-old-init
loop-old-init c =
    let σ = valued_by c.args.self.now.base.value in
    ap (λ os. with_overs (with_overs σ os) c.as_slice-olds.result.now) c.in_ok-overs.ensures.items

pub loop-old-preserved : goal.loop-old-preserved
loop-old-preserved c =
    overs_copied (valued_by c.args.self.now.base.value) c.loop-old.overs.items c.push.new.self.items c.as_slice-olds.result.now c.loop-old.old-index c.old-item.result
    c.in_ok-share.field-0 c.loop-old-test.true c.old-item.is c.in_ok-push.ensures.items c.in_ok-share.ensures.body c.in_ok-share.ensures.first
    c.in_ok-share.ensures.params c.loop-old.invariant

pub returns : goal.returns
returns c = λ n s.
    let b = c.args.self.now in
    let σ = valued_by b.base.value in
    let all = overs_done σ c.loop-old.overs.items c.as_slice-olds.result.now c.loop-old.old-index c.loop-old-test.false c.loop-old.invariant in
    ap (λ τ. τ n s)
    ((λ i. with_overs (valued_by (c.in_ok-clone.ensures.cases i)) (c.in_ok-push-2.ensures.items i)) ∙ overs_last σ c.loop-old.overs.items c.args.over
    ∙ ap (with_over c.args.over) (all ∙ ap (with_overs σ) c.as_slice-olds.ensures.value))
