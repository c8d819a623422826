use Rattle.circ_grammar.proofs.Feeding.{one_fed}
use Rattle.circ_grammar.proofs.laws.fed_in_pieces.Goals as goal

pub returns : goal.returns
returns c = one_fed
