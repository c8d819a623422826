use Rattle.circ_regex.proofs.Sorted.{term_sort, term_sorted}
use Rattle.circ_regex.proofs.laws.terms_are_sorted.Goals as goal

pub returns-clause-sorted : goal.returns-clause-sorted
returns-clause-sorted c = term_sorted

pub returns-clause-sort : goal.returns-clause-sort
returns-clause-sort c = term_sort
