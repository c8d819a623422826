use Rattle.std.proofs.Common.{refl, ap, sym, ◌∙◌}
use Rattle.circ_expansion.specs.Expand.{basis_in}
use Rattle.circ_expansion.specs.Machine.{Give_reason, all_uses}
use Rattle.circ_tasks.specs.Tasks.{call_of, background_in, why_at}
use Rattle.circ_tasks.specs.declared.calls.Call.{Call}
use Rattle.circ_tasks.specs.declared.tasks.Reason.{Reason}
use Rattle.circ_tasks.specs.declared.tasks.Task.TheVariants as task
use Rattle.circ_tasks.specs.declared.tasks.Work.{Work}
use Rattle.circ_tasks.proofs.Entering.{reduced_on}
use Rattle.circ_tasks.proofs.Stepping.{jobs_pushed}
use Rattle.circ_expand.proofs.goal_steps.reduced_step.Goals as goal

pub returns : goal.returns
returns c =
    let fr = c.args.frame.now in
    let w = c.args.work.now in
    let g = c.args.goal.now in
    let r : Reason = record { call = c.args.call; basis = c.in_ok-basis.basis; why = c.args.why; left = c.in_ok-left.left; right = c.in_ok-right.right } in
    let f = background_in fr in
    let is = c.in_ok-basis.ensures ∙ ap (λ (x : Call). basis_in (all_uses f) f (call_of fr x)) c.deref-held.ensures in
    let new : Work = record w { tasks = c.push.new.self } in
    reduced_on fr c.args.call.value r g (why_at fr c.args.why.now) w new
    (λ i. Give_reason (call_of fr c.args.call.value) (is i) (why_at fr c.args.why.now) (c.in_ok-left.ensures.same i) (c.in_ok-right.ensures.same i))
    (jobs_pushed fr w.tasks.items c.push.new.self.items (task.GiveReason r) c.in_ok-push.ensures.items) refl refl
