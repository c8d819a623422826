use Rattle.circ_lexer.specs.TokenList.{tokens_in}
use Rattle.circ_statement.proofs.Conditions.{if_at}
use Rattle.circ_statement.proofs.reading.under_conditions.Goals as goal

pub returns-in_default : goal.returns-in_default
returns-in_default c = λ s conds h. c.in_default.ensures h.front h.rest h.one_if

pub returns-in_default-sides : goal.returns-in_default-sides
returns-in_default-sides c = λ s conds h.
    let ts = c.args.tokens.now in
    c.in_default-sides.ensures s (if_at (tokens_in ts c.args.span) (tokens_in ts c.in-Some.front) (tokens_in ts c.in-Some.rest) c.in-Some.ensures.2 s conds h).0

pub returns-in-None : goal.returns-in-None
returns-in-None c = λ s conds h.
    let ts = c.args.tokens.now in
    let at = if_at (tokens_in ts c.args.span) (tokens_in ts c.in-Some.front) (tokens_in ts c.in-Some.rest) c.in-Some.ensures.2 s conds h in
    (rw c.in-None.is at c.in_ok-conds.ensures) conds at.1
