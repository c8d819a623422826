use Rattle.circ_lexer.proofs.Ordered.{in_order}
use Rattle.circ_lexer.proofs.laws.spans_in_order.Goals as goal

pub returns : goal.returns
returns c = in_order
