use Rattle.std.proofs.Common.{codes, refl}
use Rattle.circ_lexer.specs.TokenList.{tokens_in}
use Rattle.circ_script.proofs.Shapes.{shaped_as, other_as}
use Rattle.circ_script.proofs.items.item.Goals as goal

pub returns-in-Some : goal.returns-in-Some
returns-in-Some c =
    let ts = c.args.tokens.now in
    rw c.shaped.ensures (shaped_as ts (tokens_in ts c.args.words) (codes "add") (tokens_in ts c.in-Some.rest) c.in-Some.ensures.words refl c.in_ok-goal.field-0
    c.in_ok-goal.ensures)

pub returns-in-Some-after : goal.returns-in-Some-after
returns-in-Some-after c =
    let ts = c.args.tokens.now in
    rw c.shaped-in-Some-after.ensures
    (shaped_as ts (tokens_in ts c.args.words) (codes "coinduction") (tokens_in ts c.in-Some-after.rest) c.in-Some-after.ensures.words refl c.coinduction.result
    (c.coinduction.ensures ts c.in-Some-after.ensures.within))

pub returns : goal.returns
returns c =
    let ts = c.args.tokens.now in
    other_as ts (tokens_in ts c.args.words)
    (record {
      add = c.in_default.ensures;
      coinduction = c.in_default-after.ensures;
      reduce = c.in_default-reduced.ensures.0;
      red =
          c.in_default-reduced.ensures.1;
    })
    c.variables.result c.variables.ensures
