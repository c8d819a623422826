use Rattle.std.proofs.Common.{refl}
use Rattle.circ_proof.specs.PlainProof.{plain_step, plain_steps}
use Rattle.circ_proof.specs.Proof.{IsStepFor}
use Rattle.circ_grammar.specs.Grammar.{lines_of}
use Rattle.circ_file.specs.Writing.{lines_of_step}
use Rattle.circ_file.proofs.Written.{item_written, all_written, mapped_at}
use Rattle.circ_file.proofs.encoding.put_steps.Goals as goal

pub put_step-requires : goal.put_step-requires
put_step-requires c = (
  c.requires.0,
  mapped_at (IsStepFor c.requires.0) plain_step c.args.steps.now c.loop-step.step-index c.step-item.result c.requires.1 c.loop-step-test.true c.step-item.is,
)

pub loop-step-preserved : goal.loop-step-preserved
loop-step-preserved c =
    let at = c.loop-step in
    item_written (λ xs. lines_of lines_of_step (plain_steps xs)) (λ x. lines_of_step (plain_step x)) c.args.out.now.items c.args.steps.now at.step-index
    (λ x xs later. refl) at.out.items c.put_step.new.out.items c.step-item.result c.loop-step-test.true c.step-item.is at.invariant c.in_ok-put_step.ensures

pub returns : goal.returns
returns c =
    let at = c.loop-step in
    all_written (λ xs. lines_of lines_of_step (plain_steps xs)) (λ x. lines_of_step (plain_step x)) c.args.out.now.items c.args.steps.now at.step-index
    (λ later. refl) at.out.items c.loop-step-test.false at.invariant
