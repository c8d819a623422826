use Rattle.circ_proof.specs.PlainProof.{plain_step}
use Rattle.circ_check.proofs.Watching.{step_counted}
use Rattle.circ_check.proofs.checker.Checker.take_step.Goals as goal

pub returns-then-self-clause-took : goal.returns-then-self-clause-took
returns-then-self-clause-took c =
    step_counted c.args.self.now c.with_one-self.result (plain_step c.args.step.now) c.requires.sound c.requires.begun c.if-self.true c.with_one-self.ensures
