use Rattle.circ_soundness.proofs.Example.{well_formed, fits, accepted, same_behaviour, needed}
use Rattle.circ_soundness.proofs.laws.a_place_is_used.Goals as goal

pub returns-clause-theory : goal.returns-clause-theory
returns-clause-theory c = well_formed

pub returns-clause-fits : goal.returns-clause-fits
returns-clause-fits c = fits

pub returns-clause-accepted : goal.returns-clause-accepted
returns-clause-accepted c = accepted

pub returns-clause-so : goal.returns-clause-so
returns-clause-so c = same_behaviour

pub returns-clause-needed : goal.returns-clause-needed
returns-clause-needed c = needed
