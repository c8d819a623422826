use Rattle.std.proofs.Common.{sym}
use Rattle.circ_lexer.specs.TokenList.{tokens_of}
use Rattle.circ_auto.proofs.Places.{word_there, none_left}
use Rattle.circ_auto.proofs.ahead.front_of.Goals as goal

pub returns-in-Some : goal.returns-in-Some
returns-in-Some c =
    rw (← c.words.view_is)
    (sym (word_there (tokens_of c.words.inside.tokens.now) c.words.inside.at c.in-Some.word.now (sym c.in-Some.ensures)))

pub returns-in-None : goal.returns-in-None
returns-in-None c =
    rw (← c.words.view_is) (sym (none_left (tokens_of c.words.inside.tokens.now) c.words.inside.at (sym c.in-None.ensures)))
