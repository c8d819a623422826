use Rattle.circ_aci.proofs.Finding.{told_same}
use Rattle.circ_aci.proofs.operands.is_same.Goals as goal

pub returns : goal.returns
returns c = told_same c.args.a.now c.args.b.now c.same.result c.same.ensures
