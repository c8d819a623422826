use Rattle.std.proofs.Common.{◌-◌, ◌+◌, ◌++◌, [], refl, ap, sym, ◌∙◌, arith}
use Rattle.circ_expansion.specs.Pieces.{Piece, Assumption_piece}
use Rattle.circ_expansion.specs.Expand.{counted, base}
use Rattle.circ_tasks.specs.Tasks.{call_of, linked}
use Rattle.circ_tasks.specs.declared.calls.Basis.{Basis}
use Rattle.circ_tasks.specs.declared.tasks.Work.{Work}
use Rattle.circ_tasks.proofs.Advancing.{linked_on}
use Rattle.circ_tasks.proofs.Stepping.{counted_none, steps_same}
use Rattle.circ_link_steps.proofs.link_steps.assumption_step.Goals as goal

pub returns-then-work-eq0 : goal.returns-then-work-eq0
returns-then-work-eq0 c = λ v us e.
    let fr = c.args.frame.now in
    let more = c.args.more in
    counted_none c.args.work.now.left
    (linked fr c.args.work.now more [] (Assumption_piece (more.basis.value.raised + c.args.number) c.args.way (base (call_of fr more.call.value) ++ c.args.path.now)) v us)
    c.if-work-eq0.true

pub returns : goal.returns
returns c = λ v us e.
    let fr = c.args.frame.now in
    let w = c.args.work.now in
    let mid : Work = record w { left = w.left - 1 } in
    let more = c.args.more in
    let k = more.basis.value.raised + c.args.number in
    let x : Piece = Assumption_piece k c.args.way (base (call_of fr more.call.value) ++ c.args.path.now) in
    let y : Piece = Assumption_piece (c.deref.result.now.raised + c.args.number) c.args.way c.in_ok-path.path.items in
    let path = c.in_ok-path.ensures ∙ ap (λ x. base (call_of fr x) ++ c.args.path.now) c.deref-2.ensures in
    let raised = ap (λ (b : Basis). b.raised + c.args.number) c.deref.ensures in
    steps_same fr (counted w.left (linked fr w more [] x v us)) (linked fr mid more [] y v us mid.left) c.write.new.work c.write.result
    (linked_on fr w mid more [] x y v us (omega (arith, c.if-work-eq0.false)) refl refl (λ i. Assumption_piece (sym raised i) c.args.way (sym path i)))
    (c.write.ensures v us e)
