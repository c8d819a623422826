use Rattle.std.proofs.Common.{drop}
use Rattle.circ_lexer.specs.TokenList.{tokens_of}
use Rattle.circ_read.proofs.Texts.{whole_read, read_fault}
use Rattle.circ_read.proofs.reader.Reader.whole.Goals as goal

pub returns-in-Ok : goal.returns-in-Ok
returns-in-Ok c = whole_read c.args.self c.add_body.new.receiver (drop c.args.head.now.body (tokens_of c.args.tokens.now)) c.args.head.now.opened c.in-Ok.ensures

pub returns-in-Err : goal.returns-in-Err
returns-in-Err c = read_fault c.args.self c.add_body.new.receiver (drop c.args.head.now.body (tokens_of c.args.tokens.now)) c.args.head.now.opened c.in-Err.fault c.in-Err.ensures
