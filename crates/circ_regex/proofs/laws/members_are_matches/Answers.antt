use Rattle.circ_regex.proofs.Agrees.{has_matches, matches_has}
use Rattle.circ_regex.proofs.laws.members_are_matches.Goals as goal

pub returns : goal.returns
returns c = λ e w. (has_matches e w, matches_has e w)
