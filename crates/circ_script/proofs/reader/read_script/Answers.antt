use Rattle.circ_script.proofs.Walk.{bad_bytes}
use Rattle.circ_script.proofs.reader.read_script.Goals as goal

pub returns-in-Err-clause-gives : goal.returns-in-Err-clause-gives
returns-in-Err-clause-gives c = rw (c.fault_at.ensures, c.byte_fault.ensures)
    (bad_bytes c.args.theory.now c.args.job c.args.bytes.now c.in-Err.fault c.in-Err.ensures.gives)
