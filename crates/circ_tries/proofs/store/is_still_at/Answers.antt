use Rattle.std.proofs.Common.{sym, arith}
use Rattle.circ_tries.proofs.Still.{still_read, still_past}
use Rattle.circ_tries.proofs.store.is_still_at.Goals as goal

pub returns-then-place-still : goal.returns-then-place-still
returns-then-place-still c = still_read c.args.still.now c.args.place

pub returns-else-place-still : goal.returns-else-place-still
returns-else-place-still c = sym (still_past c.args.still.now c.args.place (omega (arith, c.if-place-still.false)))
