use Rattle.circ_soundness.proofs.GateExample.{gates_well_formed, gate_fits, gate_accepted, gate_behaves, not_without_given, not_without_condition}
use Rattle.circ_soundness.proofs.laws.conditions_are_used.Goals as goal

pub returns-clause-theory : goal.returns-clause-theory
returns-clause-theory c = gates_well_formed

pub returns-clause-fits : goal.returns-clause-fits
returns-clause-fits c = gate_fits

pub returns-clause-accepted : goal.returns-clause-accepted
returns-clause-accepted c = gate_accepted

pub returns-clause-so : goal.returns-clause-so
returns-clause-so c = gate_behaves

pub returns-clause-given : goal.returns-clause-given
returns-clause-given c = λ b r. not_without_given b r

pub returns-clause-followed : goal.returns-clause-followed
returns-clause-followed c = λ b r. not_without_condition b r
