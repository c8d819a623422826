use Rattle.circ_proof.specs.PlainProof.{plain_steps}
use Rattle.circ_grammar.specs.Grammar.{lines_of}
use Rattle.circ_file.specs.Writing.{lines_of_step}
use Rattle.circ_file.proofs.Written.{IsLeft}
use Rattle.circ_file.proofs.encoding.put_steps.Given as goal

abbrev pub invariant-loop-step : goal.invariant-loop-step
invariant-loop-step l = IsLeft (λ xs. lines_of lines_of_step (plain_steps xs)) l.fn.out.items l.out.items l.steps l.step-index
