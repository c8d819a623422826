use Rattle.circ_plain_search.proofs.Certifying.{starts_sorted}
use Rattle.circ_plain_search.proofs.laws.start_terms_are_sorted.Goals as goal

pub returns : goal.returns
returns c = starts_sorted
