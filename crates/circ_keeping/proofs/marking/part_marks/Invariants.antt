use Rattle.std.proofs.Common.{◌≤◌, length}
use Rattle.circ_keeping.specs.Marks.{MarkParts}
use Rattle.circ_keeping.proofs.marking.part_marks.Given as goal

abbrev pub invariant-loop-place : goal.invariant-loop-place
invariant-loop-place l = record {
  marked : MarkParts l.nodes l.count l.number l.place l.marks.items;
  within : l.place ≤ length l.marks.items;
}

abbrev pub decreases-loop-place : goal.decreases-loop-place
decreases-loop-place l = l.place
