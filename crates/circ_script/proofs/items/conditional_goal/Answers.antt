use Rattle.circ_lexer.specs.TokenList.{tokens_in}
use Rattle.circ_script.proofs.Shapes.{no_conditions, conditional_as}
use Rattle.circ_script.proofs.items.conditional_goal.Goals as goal

pub returns-in-Some : goal.returns-in-Some
returns-in-Some c =
    let ts = c.args.tokens.now in
    let h = rw c.in-Some.is at c.in_ok-sides.ensures in
    conditional_as ts (tokens_in ts c.args.words) c.in-Some.field-0.sides c.in-Some.field-0.conds h.0 h.1 h.2 h.3

pub returns-in-None : goal.returns-in-None
returns-in-None c = no_conditions (tokens_in c.args.tokens.now c.args.words) (rw c.in-None.is at c.in_ok-sides.ensures)
