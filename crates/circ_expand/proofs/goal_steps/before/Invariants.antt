use Rattle.std.proofs.Common.{◌≡◌, ◌≤◌, ◌+◌, drop, take}
use Rattle.circ_tasks.specs.Tasks.{holes_before}
use Rattle.circ_expand.proofs.goal_steps.before.Given as goal

abbrev pub invariant-loop-number : goal.invariant-loop-number
invariant-loop-number l = record {
  within : l.count ≤ l.number;
  same : l.count + holes_before l.sort (drop l.number (take l.derivative l.frame.theory.now.derivatives))
      ≡ holes_before l.sort (take l.derivative l.frame.theory.now.derivatives);
}
