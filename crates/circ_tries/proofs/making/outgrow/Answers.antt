use Rattle.circ_tries.proofs.Faulting.{outgrown_fault}
use Rattle.circ_tries.proofs.making.outgrow.Goals as goal

pub returns-in-Err-clause-outgrows : goal.returns-in-Err-clause-outgrows
returns-in-Err-clause-outgrows c = λ t u v named nu r.
    rw c.rewrite_fault.ensures (outgrown_fault c.put.new.nodes v c.in-Err.fault (c.in-Err.ensures.interns t u v named nu r))
