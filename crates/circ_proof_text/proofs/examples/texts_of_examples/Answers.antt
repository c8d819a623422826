use Rattle.circ_proof_text.proofs.TriedExamples.{zips_written, sums_written, given_bit_written, itself_fits, itself_given_fits}
use Rattle.circ_proof_text.proofs.examples.texts_of_examples.Goals as goal

pub returns-clause-zips : goal.returns-clause-zips
returns-clause-zips c = zips_written

pub returns-clause-sums : goal.returns-clause-sums
returns-clause-sums c = sums_written

pub returns-clause-given : goal.returns-clause-given
returns-clause-given c = given_bit_written

pub returns-clause-fits : goal.returns-clause-fits
returns-clause-fits c = itself_fits

pub returns-clause-fits_given : goal.returns-clause-fits_given
returns-clause-fits_given c = itself_given_fits
