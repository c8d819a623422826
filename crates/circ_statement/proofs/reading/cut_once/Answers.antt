use Rattle.std.proofs.Common.{◌∷◌, ap, ◌∙◌}
use Rattle.std.specs.Option.{option_map}
use Rattle.circ_lexer.specs.TokenList.{tokens_in}
use Rattle.circ_statement.proofs.Conditions.{cut_twice}
use Rattle.circ_statement.proofs.reading.cut_once.Goals as goal

pub returns-in-At-cut_outside : goal.returns-in-At-cut_outside
returns-in-At-cut_outside c =
    let ts = c.args.tokens.now in
    let one = c.in-At in
    let two = c.in-At-cut_outside in
    cut_twice c.args.word.now (tokens_in ts c.args.span) (tokens_in ts one.before) (tokens_in ts two.before) (tokens_in ts two.after)
    (one.ensures.2 ∙ ap (option_map (λ ps. tokens_in ts one.before ∷ ps)) two.ensures.2)
