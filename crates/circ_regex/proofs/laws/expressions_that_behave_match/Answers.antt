use Rattle.circ_regex.proofs.Agrees.{behaves_matches}
use Rattle.circ_regex.proofs.laws.expressions_that_behave_match.Goals as goal

pub returns : goal.returns
returns c = behaves_matches
