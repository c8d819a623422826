use Rattle.std.proofs.Common.{◌++◌, drop, List}
use Rattle.circ_theory.specs.Theory.{Theory}
use Rattle.circ_proof.specs.Proof.{Proof}
use Rattle.circ_proof.specs.Parts.{Part, step_parts}
use Rattle.circ_proof.specs.PlainProof.{plain_steps}
use Rattle.circ_check.specs.Watching.{HasLeft}
use Rattle.circ_check.proofs.checker.Checker.take_steps.Given as goal

abbrev pub invariant-loop-step : goal.invariant-loop-step
invariant-loop-step l = (th : Theory) (p : Proof) (ys : List Part) → HasLeft th p (step_parts (plain_steps l.steps) ++ ys) l.initial.self
    → HasLeft th p (step_parts (plain_steps (drop l.step-index l.steps)) ++ ys) l.self
