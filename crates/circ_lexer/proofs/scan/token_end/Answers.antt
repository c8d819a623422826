use Rattle.std.proofs.Common.{sym, ◌∙◌}
use Rattle.circ_lexer.proofs.Cutting.{special_scans, run_scans, bad_cut}
use Rattle.circ_lexer.proofs.scan.token_end.Goals as goal

pub returns-then-is_special : goal.returns-then-is_special
returns-then-is_special c = special_scans c.args.bytes.now c.args.at c.requires.inside (sym c.is_special.ensures ∙ c.if-is_special.true)

pub returns-in-Some : goal.returns-in-Some
returns-in-Some c =
    bad_cut c.args.bytes.now c.args.at c.plain_count.result c.in-Some.fault (rw c.rest.ensures at c.plain_count.ensures.count) c.requires.token.no_comment (sym c.in-Some.ensures)

pub returns-in-None : goal.returns-in-None
returns-in-None c =
    run_scans c.args.bytes.now c.args.at c.plain_count.result (rw c.rest.ensures at c.plain_count.ensures.count) c.requires.inside c.requires.token (sym c.is_special.ensures ∙ c.if-is_special.false)
    (sym c.in-None.ensures)
