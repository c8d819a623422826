use Rattle.circ_lexer.specs.TokenList.{tokens_in}
use Rattle.circ_statement.proofs.Spans.{some_tokens, no_tokens}
use Rattle.circ_statement.proofs.Marks.{not_given, given_by}
use Rattle.circ_statement.proofs.attributes.attributes_of.Goals as goal

pub returns-then-rest : goal.returns-then-rest
returns-then-rest c =
    let ts = c.args.tokens.now in
    let b = c.in_ok-inside.ensures in
    not_given (tokens_in ts c.args.marks) (tokens_in ts c.in_ok-inside.inside) (tokens_in ts c.in_ok-inside.rest) b.2 (some_tokens ts c.in_ok-inside.rest b.1 c.if-rest.true)

pub returns : goal.returns
returns c =
    let ts = c.args.tokens.now in
    given_by (tokens_in ts c.args.marks) (tokens_in ts c.in_ok-inside.inside) (tokens_in ts c.in_ok-inside.rest) c.in_ok-inside.ensures.2 c.added.result
    (no_tokens ts c.in_ok-inside.rest c.if-rest.false) c.added.ensures
