use Rattle.std.proofs.Common.{◌≡◌}
use Rattle.circ_expansion.specs.Machine.{tasks_weight}
use Rattle.circ_tasks.specs.Tasks.{left_of, jobs_of}
use Rattle.circ_expand.proofs.running.until_counted.Given as goal

abbrev pub invariant-loop-task : goal.invariant-loop-task
invariant-loop-task l = record {
  same : left_of l.frame l.fn.work ≡ left_of l.frame l.work;
  units : l.work.left ≡ l.units;
  first : l.units ≡ l.fn.work.left;
}

abbrev pub decreases-loop-task : goal.decreases-loop-task
decreases-loop-task l = tasks_weight (jobs_of l.frame l.work)
