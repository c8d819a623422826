use Rattle.std.proofs.Common.{map, refl, arith}
use Rattle.circ_memo.specs.Packing.{unpacked}
use Rattle.circ_memo.proofs.Entries.{same_absent, same_on}
use Rattle.circ_memo.proofs.packed.make_room.Goals as goal

pub loop-preserved : goal.loop-preserved
loop-preserved c = record {
  same =
      rw c.in_ok-push.ensures.items
      (same_on (map unpacked c.args.packed.now.items) (map unpacked c.loop.packed.items) _ c.loop.invariant.same (same_absent c.loop.packed.items _ refl));
  long = omega (arith, c.loop.invariant.long, c.in_ok-push.ensures.len);
}
