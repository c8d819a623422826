use Rattle.std.proofs.Common.{◌-◌, length, arith}
use Rattle.circ_term.proofs.Within.{depth_at}
use Rattle.circ_term.proofs.node.+same.Goals as goal

pub same_all-same-requires : goal.same_all-same-requires
same_all-same-requires t c = (omega (arith, depth_at c.args.a.now c.loop-i.i c.index-a-i.result (omega arith) c.index-a-i.is), tt)

pub same_all-same-requires-2 : goal.same_all-same-requires-2
same_all-same-requires-2 t c =
    let last = length c.args.a.now - 1 in
    (omega (arith, depth_at c.args.a.now last c.index-a-last.result (omega arith) c.index-a-last.is), tt)
