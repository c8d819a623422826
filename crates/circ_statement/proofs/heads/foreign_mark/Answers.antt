use Rattle.circ_statement.proofs.HeadParts.{mark_of}
use Rattle.circ_statement.proofs.heads.foreign_mark.Goals as goal

pub returns : goal.returns
returns c = mark_of c.foreign.result c.args.tokens.now c.args.marks c.in_ok-inside.inside c.in_ok-inside.field-0-1 c.in_ok-inside.ensures.2 c.in_ok-inside.ensures.3 c.foreign.ensures
