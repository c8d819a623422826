use Rattle.std.proofs.Common.{◌∷◌, ap, ◌∙◌}
use Rattle.circ_expansion.specs.Machine.{Begin_split, End_split}
use Rattle.circ_tasks.specs.Tasks.{reasons_job, split_term}
use Rattle.circ_tasks.specs.declared.tasks.Task.TheVariants as task
use Rattle.circ_tasks.proofs.Stepping.{jobs_pushed}
use Rattle.circ_link_steps.proofs.reason_steps.push_split.Goals as goal

pub returns-clause-tasks : goal.returns-clause-tasks
returns-clause-tasks c =
    let fr = c.args.frame.now in
    let w = c.args.work.now in
    let r = c.args.split in
    let first = jobs_pushed fr w.tasks.items c.push.new.self.items task.PutBetween c.in_ok-push.ensures.items in
    let second = jobs_pushed fr c.push.new.self.items c.push-2.new.self.items (task.Split r) c.in_ok-push-2.ensures.items in
    second ∙ ap (λ js. Begin_split (split_term r) ∷ reasons_job fr r ∷ End_split (split_term r) ∷ js) first
