use Rattle.circ_statement.proofs.Once.{said_once, left_out_once}
use Rattle.circ_statement.proofs.laws.said_in_one_way.Goals as goal

pub returns-clause-said : goal.returns-clause-said
returns-clause-said c ws a b h k = said_once ws a b h k

pub returns-clause-left_out : goal.returns-clause-left_out
returns-clause-left_out c ws v w h k = left_out_once ws v w h k
