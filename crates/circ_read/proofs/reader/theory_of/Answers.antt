use Rattle.circ_lexer.specs.TokenList.{tokens_of}
use Rattle.circ_read.specs.Failing.{at_the_head}
use Rattle.circ_read.proofs.Texts.{read_by_body}
use Rattle.circ_read.proofs.reader.theory_of.Goals as goal

pub returns-in-Some : goal.returns-in-Some
returns-in-Some c = read_by_body c.args.tokens.now.source (tokens_of c.args.tokens.now) c.known.ensures.tokens c.in-Some.head c.in-Some.ensures c.theory_after.result c.theory_after.ensures

pub returns-in-None : goal.returns-in-None
returns-in-None c = at_the_head (tokens_of c.args.tokens.now) c.known.ensures.tokens c.in-None.ensures
