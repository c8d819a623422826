use Rattle.circ_attempt.proofs.OwnRules.{derived_few, lemmas_few}
use Rattle.circ_attempt.proofs.laws.rules_are_few.Goals as goal

pub returns-clause-own : goal.returns-clause-own
returns-clause-own c = derived_few

pub returns-clause-lemmas : goal.returns-clause-lemmas
returns-clause-lemmas c = lemmas_few
