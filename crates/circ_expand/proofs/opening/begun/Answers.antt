use Rattle.std.proofs.Common.{[], ◌∷◌, ◌++◌, ap, ◌∙◌}
use Rattle.circ_tasks.specs.declared.tasks.Task.TheVariants as task
use Rattle.circ_tasks.proofs.Stepping.{jobs_pushed}
use Rattle.circ_expand.proofs.opening.begun.Goals as goal

pub returns-clause-tasks : goal.returns-clause-tasks
returns-clause-tasks c = jobs_pushed c.args.frame.now [] c.push.new.self.items (task.BeginUse c.args.call) (c.in_ok-push.ensures.items ∙ ap (λ ts. ts ++ task.BeginUse c.args.call ∷ []) c.new-tasks.ensures.items)
