use Rattle.std.proofs.lemmas.Result.{err_from_is_err_and}
use Rattle.circ_lexer.proofs.Once.{only_tokens, only_fault}
use Rattle.circ_lexer.proofs.tokens.Tokens.of.Goals as goal

pub returns-clause-only : goal.returns-clause-only
returns-clause-only c = only_tokens c.args.bytes.now c.in_ok-spans_of.field-0.items c.in_ok-spans_of.ensures

pub returns-in_err-spans_of-clause-only : goal.returns-in_err-spans_of-clause-only
returns-in_err-spans_of-clause-only c =
    let p = err_from_is_err_and c.from_residual.result c.from_residual.ensures.1 in
    rw (p.1, p.2) (only_fault c.args.bytes.now c.in_err-spans_of.field-0.0 c.in_err-spans_of.ensures)
