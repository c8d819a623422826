use Rattle.std.proofs.Common.{arith, ◌∙◌}
use Rattle.circ_term.proofs.Within.{depth_at, cmp_rest}
use Rattle.circ_term.proofs.node.+cmp.Goals as goal

pub cmp_all-cmp-requires : goal.cmp_all-cmp-requires
cmp_all-cmp-requires t c = (omega (arith, depth_at c.args.a.now c.loop-i.i c.index-a-i.result (omega arith) c.index-a-i.is), tt)

pub cmp_all-returns : goal.cmp_all-returns
cmp_all-returns t c = c.cmp-2.ensures ∙ cmp_rest c.args.a.now c.args.b.now c.loop-i.i (omega arith) (omega arith) (omega arith) ∙ c.loop-i.invariant
