use Rattle.circ_attempt.proofs.OwnRules.{script_append, left_append, script_length, own_append, derived_append, lemmas_append}
use Rattle.circ_attempt.proofs.laws.rules_stand_behind.Goals as goal

pub returns-clause-script : goal.returns-clause-script
returns-clause-script c = script_append

pub returns-clause-left : goal.returns-clause-left
returns-clause-left c = left_append

pub returns-clause-derives : goal.returns-clause-derives
returns-clause-derives c = script_length

pub returns-clause-own : goal.returns-clause-own
returns-clause-own c = own_append

pub returns-clause-derived : goal.returns-clause-derived
returns-clause-derived c = derived_append

pub returns-clause-lemmas : goal.returns-clause-lemmas
returns-clause-lemmas c = lemmas_append
