use Rattle.std.proofs.Common.{◌≡◌, ◌-◌, ◌∷◌, refl, ap, sym, ◌∙◌, subst, arith}
use Rattle.circ_term.specs.Limits.{Names, first_limit}
use Rattle.circ_term.specs.Substitution.{instance}
use Rattle.circ_uses.specs.Valuations.{by_of}
use Rattle.circ_uses.specs.declared.by.By.{By}
use Rattle.circ_tasks.specs.Tasks.{reasons_job}
use Rattle.circ_tasks.specs.declared.tasks.Task.TheVariants as task
use Rattle.circ_tasks.specs.declared.tasks.Work.{Work}
use Rattle.circ_link_steps.proofs.Parting.{split_none, split_past, split_on}
use Rattle.circ_tasks.proofs.Stepping.{jobs_pushed}
use Rattle.circ_link_steps.proofs.reason_steps.begin_split.Goals as goal

pub returns-then-work-eq0 : goal.returns-then-work-eq0
returns-then-work-eq0 c = split_none c.args.frame.now c.args.work.now c.args.split c.if-work-eq0.true

pub returns-in-Err : goal.returns-in-Err
returns-in-Err c =
    let r = c.args.split in
    let by : c.deref-2.result.now ≡ r.call.value.by.value = cc in
    let P : By → Type 0 = λ b. Names c.in-Err.fault (first_limit (instance (by_of b) r.term)) in
    split_past c.args.frame.now c.args.work.now r (c.args.work.now.left - 1) c.in-Err.fault (omega (arith, c.if-work-eq0.false)) (subst P by c.in-Err.ensures)

pub returns-in_ok-push-in-Ok-2 : goal.returns-in_ok-push-in-Ok-2
returns-in_ok-push-in-Ok-2 c =
    let fr = c.args.frame.now in
    let w = c.args.work.now in
    let r = c.args.split in
    let by : c.deref-2.result.now ≡ r.call.value.by.value = cc in
    let new : Work = record w { tasks = c.push-in-Ok.new.self; left = w.left - 1 } in
    let first = jobs_pushed fr w.tasks.items c.push.new.self.items (task.EndSplit c.in-Ok.term) c.in_ok-push-in-Ok.ensures.items in
    let second = jobs_pushed fr c.push.new.self.items c.push-in-Ok.new.self.items (task.GiveReasons r) c.in_ok-push-in-Ok-2.ensures.items in
    split_on fr w new r c.in-Ok.term (omega (arith, c.if-work-eq0.false)) (c.in-Ok.ensures.0 ∙ ap (λ b. instance (by_of b) r.term) by)
    (ap (λ b. first_limit (instance (by_of b) r.term)) (sym by) ∙ c.in-Ok.ensures.1) (second ∙ ap (λ js. reasons_job fr r ∷ js) first) refl
