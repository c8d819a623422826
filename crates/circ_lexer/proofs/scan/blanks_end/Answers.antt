use Rattle.circ_lexer.specs.Bytes.{is_blank}
use Rattle.circ_lexer.proofs.Cutting.{blanks_scan, stops_at}
use Rattle.circ_lexer.proofs.scan.blanks_end.Goals as goal

pub returns-clause-gap : goal.returns-clause-gap
returns-clause-gap c = rw (c.blank_count.ensures.count, c.rest.ensures) (blanks_scan c.args.bytes.now c.args.at c.requires)

pub returns-clause-no_blank : goal.returns-clause-no_blank
returns-clause-no_blank c = rw (c.blank_count.ensures.count, c.rest.ensures) (stops_at is_blank c.args.bytes.now c.args.at)
