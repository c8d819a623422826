use Rattle.std.proofs.Common.{arith}
use Rattle.circ_spelling.proofs.May.{pair_end}
use Rattle.circ_spelling.proofs.closed.is_pair_closed.Goals as goal

pub returns : goal.returns
returns c = λ e. pair_end c.args.starts.now c.args.opened c.args.closed c.loop-sort.sort c.width_at-sort-end.result c.loop-sort.invariant (omega arith) c.width_at-sort-end.ensures
