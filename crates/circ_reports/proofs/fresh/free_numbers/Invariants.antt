use Rattle.std.proofs.Common.{◌≡◌, ◌≤◌, ◌+◌, ◌-◌, length}
use Rattle.std.specs.List.{filter}
use Rattle.circ_theory.specs.Fresh.{fresh_after}
use Rattle.circ_reports.specs.Expand.{numbers_from, numbers_in, is_free}
use Rattle.circ_reports.proofs.fresh.free_numbers.Given as goal

abbrev pub invariant-loop-free : goal.invariant-loop-free
invariant-loop-free l = record {
  free : l.free.items ≡ filter (is_free (numbers_in l.goal)) (numbers_from 0 l.number);
  few : length l.free.items ≤ l.count;
  below : l.number ≤ fresh_after l.goal.left l.goal.right + l.count;
}

abbrev pub decreases-loop-free : goal.decreases-loop-free
decreases-loop-free l = (fresh_after l.goal.left l.goal.right + l.count) - l.number
