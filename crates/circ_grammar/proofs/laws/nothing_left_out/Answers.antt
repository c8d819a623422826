use Rattle.circ_grammar.proofs.NothingLeftOut.{some_answer}
use Rattle.circ_grammar.proofs.laws.nothing_left_out.Goals as goal

pub returns : goal.returns
returns c = some_answer
