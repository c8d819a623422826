use Rattle.circ_lexer.specs.TokenList.{tokens_of}
use Rattle.circ_read.proofs.Texts.{text_headless, text_by_body, fault_by_body}
use Rattle.circ_read.proofs.library.add_all.Goals as goal

pub returns-in-Ok : goal.returns-in-Ok
returns-in-Ok c =
    text_by_body c.args.tokens.now.source (tokens_of c.args.tokens.now) c.known.ensures.tokens c.in-Some.head c.in-Some.ensures c.args.theory.now c.add_body.new.receiver c.in-Ok.ensures

pub returns-in-Err : goal.returns-in-Err
returns-in-Err c =
    rw c.without_number.ensures
    (fault_by_body c.args.tokens.now.source (tokens_of c.args.tokens.now) c.known.ensures.tokens c.in-Some.head c.in-Some.ensures c.args.theory.now c.add_body.new.receiver
    c.in-Err.fault c.in-Err.ensures)

pub returns-in-None : goal.returns-in-None
returns-in-None c = rw c.because.ensures (text_headless c.args.tokens.now.source (tokens_of c.args.tokens.now) c.known.ensures.tokens c.args.theory.now c.in-None.ensures)
