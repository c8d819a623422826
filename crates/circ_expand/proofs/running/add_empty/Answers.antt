use Rattle.std.proofs.Common.{sym}
use Rattle.circ_expansion.specs.Expand.{Yields}
use Rattle.circ_expansion.specs.Machine.{pending}
use Rattle.circ_tasks.specs.Tasks.{jobs_of}
use Rattle.circ_expand.proofs.running.add_empty.Goals as goal

pub returns : goal.returns
returns c = λ fr i. Yields (pending (jobs_of fr c.args.work.now) (sym c.in_ok-add_empty.ensures i)) c.args.work.now.left
