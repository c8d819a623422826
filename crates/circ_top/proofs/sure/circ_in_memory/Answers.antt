use Rattle.std.proofs.Common.{refl}
use Rattle.circ_top.proofs.NoFaults.{never_rose, always_read, always_written, sure_outcome, sure_answer}
use Rattle.circ_top.proofs.sure.circ_in_memory.Goals as goal

pub returns-clause-promises : goal.returns-clause-promises
returns-clause-promises c = c.circ.ensures.promises

pub returns-clause-no_read_fault : goal.returns-clause-no_read_fault
returns-clause-no_read_fault c = λ h n e. always_read _ c.circ.result c.circ.ensures.promises never_rose h n e

pub returns-clause-no_write_fault : goal.returns-clause-no_write_fault
returns-clause-no_write_fault c = λ n e. always_written _ c.circ.result c.circ.ensures.promises never_rose never_rose n e

pub returns-clause-outcome : goal.returns-clause-outcome
returns-clause-outcome c = λ h. sure_outcome _ c.circ.result c.circ.ensures.promises never_rose never_rose refl refl h

pub returns-clause-complete : goal.returns-clause-complete
returns-clause-complete c = λ s text stored h. sure_answer _ c.circ.result c.circ.ensures.promises never_rose never_rose refl refl s text stored h
