use Rattle.circ_lexer.specs.TokenList.{tokens_in}
use Rattle.circ_script.proofs.Shapes.{no_goal_word}
use Rattle.circ_script.proofs.items.goal.Goals as goal

pub returns-in-None : goal.returns-in-None
returns-in-None c = no_goal_word (tokens_in c.args.tokens.now c.args.words) c.in_default.ensures c.in-None.ensures
