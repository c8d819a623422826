use Rattle.std.proofs.Common.{◌≤◌, length, map}
use Rattle.circ_memo.specs.Keeping.{HasSame}
use Rattle.circ_memo.specs.Packing.{unpacked}
use Rattle.circ_memo.proofs.packed.make_room.Given as goal

abbrev pub invariant-loop : goal.invariant-loop
invariant-loop l = record {
  same : HasSame (map unpacked l.initial.packed.items) (map unpacked l.packed.items);
  long : l.counter ≤ length l.packed.items;
}
