use Rattle.circ_regex.proofs.Evaluates.{matches_behaves}
use Rattle.circ_regex.proofs.laws.expressions_that_match_behave.Goals as goal

pub returns : goal.returns
returns c = matches_behaves
