use Rattle.circ_plain_search.proofs.Certifying.{is_certified}
use Rattle.circ_plain_search.proofs.laws.set_is_certified.Goals as goal

pub returns : goal.returns
returns c = is_certified
