use Rattle.circ_proof.proofs.Rows.{hypothesis_plain}
use Rattle.circ_numbering.proofs.asking.hypothesis_link.Goals as goal

pub returns-in-Ok : goal.returns-in-Ok
returns-in-Ok c = rw c.in-Ok.is (hypothesis_plain c.args.number c.args.way c.in-Ok.parts.path c.in-Ok.parts.terms c.in-Ok.parts.conds)
