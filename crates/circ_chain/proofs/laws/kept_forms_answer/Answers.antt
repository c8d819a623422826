use Rattle.circ_chain.proofs.Tops.{reduces_run, out_run, breaks_run, outgrows_not}
use Rattle.circ_chain.proofs.laws.kept_forms_answer.Goals as goal

pub returns-clause-form : goal.returns-clause-form
returns-clause-form c = λ due ts k t v r h. reduces_run due ts k t v r h

pub returns-clause-spent : goal.returns-clause-spent
returns-clause-spent c = λ due k t r. out_run due k t r

pub returns-clause-past : goal.returns-clause-past
returns-clause-past c = λ due k left t l b. breaks_run due k left t l b

pub returns-clause-within : goal.returns-clause-within
returns-clause-within c = λ due k left t x o. outgrows_not due k left t x o
