use Rattle.circ_lexer.specs.TokenList.{tokens_in}
use Rattle.circ_script.proofs.Places.{aside_found, aside_not}
use Rattle.circ_script.proofs.spans.set_aside.Goals as goal

pub returns-in-Some-clause-found : goal.returns-in-Some-clause-found
returns-in-Some-clause-found c = (aside_found c.args.tokens.now c.args.span c.in-Some.rest c.args.word.now c.in-Some.ensures).0

pub returns-in-Some-clause-words : goal.returns-in-Some-clause-words
returns-in-Some-clause-words c = (aside_found c.args.tokens.now c.args.span c.in-Some.rest c.args.word.now c.in-Some.ensures).1

pub returns-in-None-clause-words : goal.returns-in-None-clause-words
returns-in-None-clause-words c = aside_not c.args.word.now (tokens_in c.args.tokens.now c.args.span) c.in-None.ensures
