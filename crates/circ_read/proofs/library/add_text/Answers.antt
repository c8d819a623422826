use Rattle.std.proofs.Common.{subst}
use Rattle.circ_read.specs.Steps.{StepAnswers, TextOutcome}
use Rattle.circ_read.proofs.Texts.{bad_text}
use Rattle.circ_read.proofs.library.add_text.Goals as goal

pub returns-in-Ok : goal.returns-in-Ok
returns-in-Ok c = subst (λ b. StepAnswers c.add_all.result c.add_all.new.theory (TextOutcome c.args.theory.now b)) c.in-Ok.ensures.gives.0 c.add_all.ensures

pub returns-in-Err : goal.returns-in-Err
returns-in-Err c = rw c.byte_fault.ensures (bad_text c.args.theory.now c.args.bytes.now c.in-Err.fault c.args.theory.now c.in-Err.ensures.gives)
