use Rattle.circ_rewrite.proofs.MatchingFacts.{matching_decides}
use Rattle.circ_rewrite.proofs.laws.matching_decides.Goals as goal

pub returns : goal.returns
returns c = matching_decides
