use Rattle.circ_conditional_search.proofs.Coming.{standing_small}
use Rattle.circ_conditional_search.proofs.laws.standings_are_small.Goals as goal

pub returns : goal.returns
returns c = λ th wf G m blocks. standing_small th wf G m blocks
