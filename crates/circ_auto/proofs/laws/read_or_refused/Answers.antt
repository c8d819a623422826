use Rattle.circ_auto.proofs.Once.{automaton_total}
use Rattle.circ_auto.proofs.laws.read_or_refused.Goals as goal

pub returns : goal.returns
returns c = automaton_total c.cut_in_one_way.ensures.some
