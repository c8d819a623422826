use Rattle.std.proofs.Common.{◌∙◌}
use Rattle.circ_lexer.specs.TokenList.{tokens_in}
use Rattle.circ_statement.proofs.HeadParts.{no_arrow, head_parts}
use Rattle.circ_statement.proofs.heads.head_of.Goals as goal

pub returns-in_default-split : goal.returns-in_default-split
returns-in_default-split c f a r m h =
    let ts = c.args.tokens.now in
    let cut = c.in-Some.ensures in
    no_arrow (tokens_in ts c.args.span) (tokens_in ts c.in-Some.front) (tokens_in ts c.in-Some.sorts) cut.2 cut.3 c.in_default-split.ensures f a r m h

pub returns-in_default-first_of : goal.returns-in_default-first_of
returns-in_default-first_of c f a r m h =
    let ts = c.args.tokens.now in
    let cut = c.in-Some.ensures in
    let next = c.in-Some-split.ensures in
    let parts = head_parts (tokens_in ts c.args.span) (tokens_in ts c.in-Some.front) (tokens_in ts c.in-Some.sorts) cut.2 cut.3 (tokens_in ts c.in-Some-split.args) (tokens_in ts c.in-Some-split.last)
    f a r m next.2 next.3 h in
    let none = parts.1 ∙ c.in_default-first_of.ensures in
    absurd (cc)
