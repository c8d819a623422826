use Rattle.std.proofs.Common.{subst}
use Rattle.circ_read.specs.ReadsAs.{GivesTheory}
use Rattle.circ_read.proofs.Texts.{bad_bytes}
use Rattle.circ_read.proofs.reader.read_theory.Goals as goal

pub returns-in-Ok : goal.returns-in-Ok
returns-in-Ok c = record { gives = subst (λ b. GivesTheory c.theory_of.result b) c.in-Ok.ensures.gives.0 c.theory_of.ensures }

pub returns-in-Err : goal.returns-in-Err
returns-in-Err c = record { gives = rw (c.fault_at.ensures, c.byte_fault.ensures) (bad_bytes c.args.bytes.now c.in-Err.fault c.in-Err.ensures.gives) }
