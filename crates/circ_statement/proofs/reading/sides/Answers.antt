use Rattle.circ_lexer.specs.TokenList.{tokens_in}
use Rattle.circ_statement.proofs.Equations.{no_equals, two_equals}
use Rattle.circ_statement.proofs.reading.sides.Goals as goal

pub returns-in-Some-split : goal.returns-in-Some-split
returns-in-Some-split c =
    let ts = c.args.tokens.now in
    let cut = c.in-Some.ensures in
    let again = c.in-Some-split in
    two_equals (tokens_in ts c.args.span) (tokens_in ts c.in-Some.left) (tokens_in ts c.in-Some.right) (tokens_in ts again.field-0.0) (tokens_in ts again.field-0.1)
    cut.2 cut.3 again.ensures.2
