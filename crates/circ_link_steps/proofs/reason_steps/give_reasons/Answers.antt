use Rattle.std.proofs.Common.{◌∷◌, ap, ◌∙◌}
use Rattle.circ_tasks.specs.Tasks.{reason_job, reasons_job}
use Rattle.circ_tasks.specs.declared.tasks.Task.TheVariants as task
use Rattle.circ_tasks.proofs.Stepping.{jobs_pushed}
use Rattle.circ_link_steps.proofs.reason_steps.give_reasons.Goals as goal

pub returns-clause-tasks : goal.returns-clause-tasks
returns-clause-tasks c =
    let fr = c.args.frame.now in
    let w = c.args.work.now in
    let first = jobs_pushed fr w.tasks.items c.push.new.self.items task.AddPart c.in_ok-push.ensures.items in
    let second = jobs_pushed fr c.push.new.self.items c.push-2.new.self.items (task.GiveReasons c.args.rest) c.in_ok-push-2.ensures.items in
    let third = jobs_pushed fr c.push-2.new.self.items c.push-3.new.self.items (task.GiveReason c.args.first) c.in_ok-push-3.ensures.items in
    third ∙ ap (λ js. reason_job fr c.args.first ∷ js) (second ∙ ap (λ js. reasons_job fr c.args.rest ∷ js) first)
