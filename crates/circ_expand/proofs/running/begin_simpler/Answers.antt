use Rattle.std.proofs.Common.{refl, arith, ◌-◌}
use Rattle.circ_tasks.specs.Tasks.{simpler_use, background_in}
use Rattle.circ_tasks.specs.declared.tasks.Task.TheVariants as task
use Rattle.circ_tasks.specs.declared.tasks.Work.{Work}
use Rattle.circ_tasks.proofs.Stepping.{use_begun}
use Rattle.circ_expand.proofs.running.begin_simpler.Goals as goal

pub returns : goal.returns
returns c = λ fr.
    let w = c.args.work.now in
    let new : Work = record w { tasks = c.push.new.self; left = w.left - 1 } in
    use_begun fr (background_in fr) w new (task.EnterSimpler c.args.simpler) (simpler_use fr c.args.simpler) (λ js. refl) (omega (arith, c.if-work-eq0.false))
    c.in_ok-push.ensures.items refl
