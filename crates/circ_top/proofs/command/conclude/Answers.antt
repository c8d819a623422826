use Rattle.std.proofs.Common.{refl, sym, append-nil}
use Rattle.circ_top.specs.Storing.{stored_first, not_stored}
use Rattle.circ_top.proofs.command.conclude.Goals as goal

pub returns-in-Err-clause-ends : goal.returns-in-Err-clause-ends
returns-in-Err-clause-ends g c = λ words. not_stored c.in-Err.status c.in-Err.ensures.fails (record { quiet = refl; printed = λ t. sym (append-nil _) })

pub returns-clause-ends : goal.returns-clause-ends
returns-clause-ends g c = λ words. stored_first c.deliver.result c.in_default.ensures.held (rw c.as_slice.ensures.value at c.deliver.ensures.delivers)
