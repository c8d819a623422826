use Rattle.circ_line.proofs.OneText.{one_text, no_feed}
use Rattle.circ_line.proofs.laws.texts_are_told_apart.Goals as goal

pub returns-clause-one : goal.returns-clause-one
returns-clause-one c = one_text

pub returns-clause-within : goal.returns-clause-within
returns-clause-within c = no_feed
