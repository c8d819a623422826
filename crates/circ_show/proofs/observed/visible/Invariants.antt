use Rattle.std.proofs.Common.{◌≡◌, length}
use Rattle.circ_show.proofs.SortMarks.{StartFrom}
use Rattle.circ_show.proofs.observed.visible.Given as goal

abbrev pub invariant-loop-sort : goal.invariant-loop-sort
invariant-loop-sort l = record { count : length l.marks.items ≡ l.sort; start : StartFrom l.theory 0 l.marks.items }
