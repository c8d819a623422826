use Rattle.circ_proof_text.proofs.Standing.{faults_form, faults_next, faults_check, faults_limit}
use Rattle.circ_proof_text.proofs.reading.line_is_at_fault.Goals as goal

pub returns-clause-form : goal.returns-clause-form
returns-clause-form c = faults_form

pub returns-clause-order : goal.returns-clause-order
returns-clause-order c = faults_next

pub returns-clause-check : goal.returns-clause-check
returns-clause-check c = faults_check

pub returns-clause-limit : goal.returns-clause-limit
returns-clause-limit c = faults_limit
