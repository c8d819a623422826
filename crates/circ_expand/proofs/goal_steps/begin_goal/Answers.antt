use Rattle.std.proofs.Common.{◌∙◌}
use Rattle.circ_tasks.specs.Tasks.{begun_sides, jobs_of}
use Rattle.circ_expand.proofs.goal_steps.begin_goal.Goals as goal

pub returns-clause-tasks : goal.returns-clause-tasks
returns-clause-tasks c =
    let fr = c.args.frame.now in
    c.in_ok-begin_sides.ensures.tasks
    ∙ (λ i. begun_sides fr c.args.call.value c.args.basis.value c.args.chain.now (c.in_ok-left.ensures.same i) (c.in_ok-right.ensures.same i) (jobs_of fr c.args.work.now))
