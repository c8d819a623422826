use Rattle.circ_attempt.proofs.Derived.{script_goes, left_goes, rules_go}
use Rattle.circ_attempt.proofs.laws.own_rules_grow.Goals as goal

pub returns-clause-script : goal.returns-clause-script
returns-clause-script c = script_goes

pub returns-clause-left : goal.returns-clause-left
returns-clause-left c = left_goes

pub returns-clause-rules : goal.returns-clause-rules
returns-clause-rules c = rules_go
