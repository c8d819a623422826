use Rattle.std.proofs.Common.{◌≡◌, ◌+◌, length, min}
use Rattle.circ_tasks.specs.Tasks.{left_of}
use Rattle.circ_expand.proofs.running.run.Given as goal

abbrev pub invariant-loop-work : goal.invariant-loop-work
invariant-loop-work l = left_of l.frame l.fn.work ≡ left_of l.frame l.work

abbrev pub decreases-loop-work : goal.decreases-loop-work
decreases-loop-work l = l.work.left + min 1 (length l.work.tasks.items)
