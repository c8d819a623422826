use Rattle.circ_lexer.specs.TokenList.{tokens_in}
use Rattle.circ_mixfix.specs.Variables.{vars_in}
use Rattle.circ_mixfix.proofs.Twos.{added_if}
use Rattle.circ_mixfix.proofs.parse.read_pair.Goals as goal

pub returns : goal.returns
returns c = λ all rest h.
    let sig = c.args.scope.now.theory.now.signature in
    let vars = vars_in c.args.scope.now in
    added_if sig vars (tokens_in c.args.tokens.now c.args.left) (tokens_in c.args.tokens.now c.args.right) all rest c.read_both.new.words c.args.choices.now c.add.new.choices
    c.in_ok-found.found c.add.result c.in_ok-found.ensures c.add.ensures h
