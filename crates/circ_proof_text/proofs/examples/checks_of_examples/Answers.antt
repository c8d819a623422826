use Rattle.circ_proof_text.proofs.TriedExamples.{no_sort}
use Rattle.circ_proof_text.proofs.examples.checks_of_examples.Goals as goal

pub returns-clause-no_sort : goal.returns-clause-no_sort
returns-clause-no_sort c = no_sort
