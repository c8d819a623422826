use Rattle.std.proofs.Common.{◌≡◌, length}
use Rattle.circ_keeping.proofs.Parted.{Each}
use Rattle.circ_keeping.proofs.taking.marked_parts.Given as goal

abbrev pub invariant-loop-place : goal.invariant-loop-place
invariant-loop-place l = record {
  long : length l.parts.items ≡ l.place;
  each : Each l.nodes l.count l.marks l.parts.items;
}
