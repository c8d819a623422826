use Rattle.circ_plain_search.proofs.Coming.{standing_small}
use Rattle.circ_plain_search.proofs.laws.standings_are_small.Goals as goal

pub returns : goal.returns
returns c = λ th wf G l blocks. standing_small th wf G l blocks
