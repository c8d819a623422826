use Rattle.std.proofs.Common.{◌≤◌, length}
use Rattle.circ_tries.specs.Store.{HasSameStill}
use Rattle.circ_tries.proofs.store.make_room.Given as goal

abbrev pub invariant-loop : goal.invariant-loop
invariant-loop l = record {
  same : HasSameStill l.initial.still.items l.still.items;
  long : l.counter ≤ length l.still.items;
}
