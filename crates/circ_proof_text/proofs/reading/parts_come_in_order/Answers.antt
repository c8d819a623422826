use Rattle.circ_proof_text.proofs.Handed.{handed_fit, handed_first, handed_counted}
use Rattle.circ_proof_text.proofs.Standing.{one_standing}
use Rattle.circ_proof_text.proofs.reading.parts_come_in_order.Goals as goal

pub returns-clause-fit : goal.returns-clause-fit
returns-clause-fit c = handed_fit

pub returns-clause-first : goal.returns-clause-first
returns-clause-first c = λ th bytes later handed k p w. handed_first th bytes later handed k p w

pub returns-clause-counted : goal.returns-clause-counted
returns-clause-counted c = λ th bytes later handed k p w. handed_counted th bytes later handed k p w

pub returns-clause-one : goal.returns-clause-one
returns-clause-one c = one_standing
