use Rattle.std.proofs.Common.{sym, subst}
use Rattle.circ_lexer.specs.TokenList.{tokens_in}
use Rattle.circ_statement.specs.Statement.{AreSides}
use Rattle.circ_statement.proofs.Equations.{unmarked_same}
use Rattle.circ_statement.proofs.reading.equation.Goals as goal

pub returns-in-None : goal.returns-in-None
returns-in-None c = λ said e.
    let ts = c.args.tokens.now in
    let r = c.unmarked-exec in
    c.in-None.ensures e.sides (subst (λ ws. AreSides ws e.sides) (unmarked_same (tokens_in ts c.args.span) e.body (tokens_in ts r.result.0) e.exec r.result.1 e.unmarked r.ensures.1).0 e.are_sides)
