use Rattle.std.proofs.Common.{◌≡◌, ◌≤◌, ◌++◌, length, min, reverse}
use Rattle.circ_book.proofs.histories.behind.Given as goal

abbrev pub invariant-loop-left : goal.invariant-loop-left
invariant-loop-left l = record {
  same : l.goals.items ++ reverse l.taken.items ≡ l.initial.goals.items;
  long : l.left ≡ length l.goals.items;
  enough : min l.count (length l.initial.goals.items) ≤ l.left;
}

abbrev pub decreases-loop-left : goal.decreases-loop-left
decreases-loop-left l = l.left
