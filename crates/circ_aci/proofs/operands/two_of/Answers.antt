use Rattle.std.proofs.Common.{sym}
use Rattle.circ_aci.proofs.Finding.{two_absent}
use Rattle.circ_aci.proofs.operands.two_of.Goals as goal

pub returns-then-args-ne2 : goal.returns-then-args-ne2
returns-then-args-ne2 c = sym (two_absent c.args.args.now c.if-args-ne2.true)
