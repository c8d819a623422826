use Rattle.circ_lexer.proofs.Texts.{tokens_are}
use Rattle.circ_lexer.proofs.laws.tokens_are_tokens.Goals as goal

pub returns : goal.returns
returns c = tokens_are
