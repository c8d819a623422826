use Rattle.circ_lexer.specs.TokenList.{tokens_in}
use Rattle.circ_script.proofs.Shapes.{no_sides, bare_as}
use Rattle.circ_script.proofs.items.bare_goal.Goals as goal

pub returns-in-Some : goal.returns-in-Some
returns-in-Some c =
    let ts = c.args.tokens.now in
    let h = c.in-Some.ensures in
    bare_as ts (tokens_in ts c.args.words) c.in-Some.sides c.new-conds.result c.new-conds.ensures.items h.0 h.1 h.2

pub returns-in-None : goal.returns-in-None
returns-in-None c = no_sides (tokens_in c.args.tokens.now c.args.words) c.in-None.ensures
