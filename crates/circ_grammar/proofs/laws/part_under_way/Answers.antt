use Rattle.circ_grammar.proofs.Now.{next_is, line_part_is}
use Rattle.circ_grammar.proofs.laws.part_under_way.Goals as goal

pub returns-clause-goes_on : goal.returns-clause-goes_on
returns-clause-goes_on c = next_is

pub returns-clause-shows : goal.returns-clause-shows
returns-clause-shows c = line_part_is
