use Rattle.circ_lexer.specs.TokenList.{tokens_in}
use Rattle.circ_read.proofs.Walk.{no_words, some_words}
use Rattle.circ_read.proofs.body.add_tokens.Goals as goal

pub returns-in-Ok : goal.returns-in-Ok
returns-in-Ok g c =
    let ts = c.args.tokens.now in
    some_words g.R.Receiver.adds g.R.Receiver.refuses c.args.receiver.now ts (tokens_in ts c.args.span) c.in-Ok.statement c.add.result c.add.new.self c.in-Ok.ensures c.add.ensures

pub returns-in-Err : goal.returns-in-Err
returns-in-Err g c =
    let ts = c.args.tokens.now in
    no_words g.R.Receiver.adds g.R.Receiver.refuses c.args.receiver.now ts (tokens_in ts c.args.span) c.in-Err.fault c.args.receiver.now c.in-Err.ensures
