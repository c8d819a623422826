use Rattle.circ_lexer.proofs.Once.{once}
use Rattle.circ_lexer.proofs.Texts.{tokens_once}
use Rattle.circ_lexer.proofs.Whole.{some_cut}
use Rattle.circ_lexer.proofs.laws.cut_in_one_way.Goals as goal

pub returns-clause-some : goal.returns-clause-some
returns-clause-some c = some_cut

pub returns-clause-one : goal.returns-clause-one
returns-clause-one c = λ bytes ss us o p h k. once h k

pub returns-clause-tokens : goal.returns-clause-tokens
returns-clause-tokens c = tokens_once
