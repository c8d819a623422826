use Rattle.std.proofs.Common.{subst}
use Rattle.circ_lexer.specs.TokenList.{tokens_in}
use Rattle.circ_statement.specs.Statement.{AreUnderConditions}
use Rattle.circ_statement.proofs.Equations.{unmarked_same}
use Rattle.circ_statement.proofs.reading.conditional.Goals as goal

pub returns-in-None : goal.returns-in-None
returns-in-None c = λ said h.
    let ts = c.args.tokens.now in
    let r = c.unmarked-exec in
    let same = (unmarked_same (tokens_in ts c.args.span) h.body (tokens_in ts r.result.0) h.exec r.result.1 h.unmarked r.ensures.1).0 in
    (rw c.in-None.is at c.in_ok-sides.ensures) h.sides h.conds (subst (λ ws. AreUnderConditions ws h.sides h.conds) same h.are)
