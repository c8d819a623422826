use Rattle.circ_term.proofs.Order.{tree_cmp_total, equal_is_same}
use Rattle.circ_term.proofs.laws.terms_are_ordered.Goals as goal

pub returns-clause-total : goal.returns-clause-total
returns-clause-total c = tree_cmp_total

pub returns-clause-same : goal.returns-clause-same
returns-clause-same c = equal_is_same
