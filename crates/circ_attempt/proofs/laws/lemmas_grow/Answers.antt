use Rattle.circ_attempt.proofs.Derived.{none_of_script, whole_script, no_rules, lemmas_go}
use Rattle.circ_attempt.proofs.laws.lemmas_grow.Goals as goal

pub returns-clause-script : goal.returns-clause-script
returns-clause-script c = none_of_script

pub returns-clause-left : goal.returns-clause-left
returns-clause-left c = whole_script

pub returns-clause-rules : goal.returns-clause-rules
returns-clause-rules c = no_rules

pub returns-clause-lemmas : goal.returns-clause-lemmas
returns-clause-lemmas c = lemmas_go
