use Rattle.circ_lexer.specs.TokenList.{tokens_in}
use Rattle.circ_script.proofs.Places.{some_in}
use Rattle.circ_script.proofs.Shapes.{alone}
use Rattle.circ_script.proofs.items.coinduction.Goals as goal

pub returns-then-rest : goal.returns-then-rest
returns-then-rest c = λ ts h. alone (tokens_in ts c.args.rest) (some_in ts c.args.rest h c.if-rest.true)
