use Rattle.std.proofs.Common.{◌∷◌, ◌∙◌}
use Rattle.circ_tasks.specs.declared.tasks.Task.TheVariants as task
use Rattle.circ_tasks.proofs.Stepping.{jobs_pushed}
use Rattle.circ_place_steps.proofs.place_steps.push_side.Goals as goal

pub returns-clause-tasks : goal.returns-clause-tasks
returns-clause-tasks c =
    let fr = c.args.frame.now in
    let w = c.args.work.now in
    let row = jobs_pushed fr w.tasks.items c.push.new.self.items task.EmptyRow c.in_ok-push.ensures.items in
    let links = jobs_pushed fr c.push.new.self.items c.push-2.new.self.items (task.Links c.in_ok-side.side) c.in_ok-push-2.ensures.items in
    links ∙ (λ i. c.in_ok-side.ensures i ∷ row i)
