use Rattle.circ_attempt.proofs.Coming.{standing_small}
use Rattle.circ_attempt.proofs.laws.standings_are_small.Goals as goal

pub returns : goal.returns
returns c = λ th wf G l blocks can x c. standing_small th wf G l blocks can x c
