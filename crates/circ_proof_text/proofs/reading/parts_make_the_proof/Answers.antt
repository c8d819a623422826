use Rattle.circ_proof_text.proofs.Parts.{parts_are, parts_gathered}
use Rattle.circ_proof_text.proofs.Fitting.{parts_fit}
use Rattle.circ_proof_text.proofs.WholeParts.{ends_so, whole_fits}
use Rattle.circ_proof_text.proofs.reading.parts_make_the_proof.Goals as goal

pub returns-clause-shown : goal.returns-clause-shown
returns-clause-shown c = parts_are

pub returns-clause-gathered : goal.returns-clause-gathered
returns-clause-gathered c = parts_gathered

pub returns-clause-fit : goal.returns-clause-fit
returns-clause-fit c = parts_fit

pub returns-clause-last : goal.returns-clause-last
returns-clause-last c = ends_so

pub returns-clause-whole : goal.returns-clause-whole
returns-clause-whole c = whole_fits
