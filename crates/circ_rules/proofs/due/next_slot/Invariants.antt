use Rattle.std.proofs.Common.{◌≡◌, drop}
use Rattle.circ_rules.specs.Due.{due_from, due_after}
use Rattle.circ_rules.proofs.due.next_slot.Given as goal

abbrev pub invariant-loop-number : goal.invariant-loop-number
invariant-loop-number l = record {
  so_far : due_from l.theory (drop l.number l.gamma) l.from ≡ due_after l.theory l.gamma l.initial.due;
  same : l.due ≡ l.initial.due;
}
