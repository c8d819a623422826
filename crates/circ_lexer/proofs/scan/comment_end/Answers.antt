use Rattle.circ_lexer.proofs.Cutting.{comment_scans}
use Rattle.circ_lexer.proofs.scan.comment_end.Goals as goal

pub returns-clause-gap : goal.returns-clause-gap
returns-clause-gap c = rw (c.line_length.ensures.count, c.rest.ensures) (comment_scans c.args.bytes.now c.args.at c.requires.inside c.requires.comment)
