use Rattle.circ_lexer.specs.TokenList.{tokens_in}
use Rattle.circ_read.proofs.Once.{SaidOnce}
use Rattle.circ_script.proofs.Shapes.{declaration_as, unshaped_as}
use Rattle.circ_script.proofs.items.variables.Goals as goal

pub returns-in-Ok : goal.returns-in-Ok
returns-in-Ok c =
    let law : SaidOnce = record { said = c.said_in_one_way.ensures.said; out = c.said_in_one_way.ensures.left_out } in
    let ts = c.args.tokens.now in
    rw (c.shaped.ensures, c.declaration.ensures) (declaration_as law ts (tokens_in ts c.args.words) c.in-Ok.statement c.in-Ok.ensures)

pub returns-in-Err : goal.returns-in-Err
returns-in-Err c = unshaped_as c.args.tokens.now (tokens_in c.args.tokens.now c.args.words) c.in-Err.fault c.in-Err.ensures
