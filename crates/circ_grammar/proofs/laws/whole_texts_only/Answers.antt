use Rattle.circ_grammar.proofs.WholeTexts.{broken_off, goes_on}
use Rattle.circ_grammar.proofs.laws.whole_texts_only.Goals as goal

pub returns-clause-broken_off : goal.returns-clause-broken_off
returns-clause-broken_off c = broken_off

pub returns-clause-goes_on : goal.returns-clause-goes_on
returns-clause-goes_on c = goes_on
