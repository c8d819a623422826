use Rattle.std.proofs.Common.{arith}
use Rattle.circ_term.proofs.Limits.{within_limits}
use Rattle.circ_special.proofs.guard.guarded.Goals as goal

pub below-requires : goal.below-requires
below-requires c = let deep = (within_limits c.args.term.now c.known.ensures).1 in omega (arith, c.room-path.ensures)
