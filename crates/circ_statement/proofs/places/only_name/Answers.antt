use Rattle.std.proofs.Common.{◌≡◌, []}
use Rattle.circ_lexer.specs.TokenList.{tokens_in}
use Rattle.circ_statement.proofs.Spans.{some_tokens}
use Rattle.circ_statement.proofs.places.only_name.Goals as goal

pub returns-then-first : goal.returns-then-first
returns-then-first c w e n =
    let f = c.in_ok-first.ensures in
    let none : tokens_in c.args.tokens.now c.in_ok-first.first.rest ≡ [] = cc in
    some_tokens c.args.tokens.now c.in_ok-first.first.rest f.within c.if-first.true none
