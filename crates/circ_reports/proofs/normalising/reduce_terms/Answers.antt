use Rattle.circ_reports.proofs.Ends.{fault_end}
use Rattle.circ_reports.proofs.normalising.reduce_terms.Goals as goal

pub returns-in-Err-clause-ends : goal.returns-in-Err-clause-ends
returns-in-Err-clause-ends c =
    rw c.end.ensures (fault_end c.args.budget c.args.theory.now c.args.terms.now c.in-Err.fault c.in-Err.ensures.fault)
