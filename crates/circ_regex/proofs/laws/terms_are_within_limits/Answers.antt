use Rattle.circ_regex.proofs.Within.{text_within}
use Rattle.circ_regex.proofs.laws.terms_are_within_limits.Goals as goal

pub returns : goal.returns
returns c = text_within
