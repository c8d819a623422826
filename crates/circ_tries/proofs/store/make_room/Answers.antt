use Rattle.std.proofs.Common.{arith}
use Rattle.circ_tries.proofs.Still.{same_push, same_on}
use Rattle.circ_tries.proofs.store.make_room.Goals as goal

pub loop-preserved : goal.loop-preserved
loop-preserved c = record {
  same = rw c.in_ok-push.ensures.items (same_on c.args.still.now.items c.loop.still.items _ c.loop.invariant.same (same_push c.loop.still.items));
  long = omega (arith, c.loop.invariant.long, c.in_ok-push.ensures.len);
}
