use Rattle.std.proofs.Common.{◌∷◌, ap, ◌∙◌}
use Rattle.circ_expansion.specs.Machine.{Enter_use, Put_behind}
use Rattle.circ_tasks.specs.Tasks.{call_of}
use Rattle.circ_tasks.specs.declared.tasks.Task.TheVariants as task
use Rattle.circ_tasks.proofs.Stepping.{jobs_pushed}
use Rattle.circ_link_steps.proofs.link_steps.push_use.Goals as goal

pub returns-clause-tasks : goal.returns-clause-tasks
returns-clause-tasks c =
    let fr = c.args.frame.now in
    let w = c.args.work.now in
    let first = jobs_pushed fr w.tasks.items c.push.new.self.items (task.Links c.args.more) c.in_ok-push.ensures.items in
    let second = jobs_pushed fr c.push.new.self.items c.push-2.new.self.items (task.PutBehind c.args.way) c.in_ok-push-2.ensures.items in
    let third = jobs_pushed fr c.push-2.new.self.items c.push-3.new.self.items (task.EnterUse c.args.call) c.in_ok-push-3.ensures.items in
    third ∙ ap (λ js. Enter_use (call_of fr c.args.call.value) ∷ js) (second ∙ ap (λ js. Put_behind c.args.way ∷ js) first)
