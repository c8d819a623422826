use Rattle.circ_lexer.proofs.Texts.{spaced_are}
use Rattle.circ_lexer.proofs.laws.spaced_tokens.Goals as goal

pub returns : goal.returns
returns c = spaced_are
