use Rattle.std.proofs.Common.{◌++◌, ◌∷◌, ◌+◌, ℕ, List, drop, subst}
use Rattle.std.proofs.lemmas.List.{drop_all}
use Rattle.circ_term.proofs.Within.{drop_read}
use Rattle.circ_proof.specs.Parts.{Step, step_parts}
use Rattle.circ_proof.specs.PlainProof.{plain_step, plain_steps}
use Rattle.circ_proof.specs.declared.proof.Step.{Step as TheStep}
use Rattle.circ_check.specs.Watching.{HasLeft}
use Rattle.circ_check.proofs.Whole.{left_sound, left_ready, left_behind, left_taken}
use Rattle.circ_check.proofs.checker.Checker.take_steps.Goals as goal

pub loop-step-init : goal.loop-step-init
loop-step-init c th p ys h = h

pub take_step-requires : goal.take_step-requires
take_step-requires c =
    let at = c.loop-step in
    let xs = c.args.steps.now in
    let x = c.step-item.result in
    let th = c.requires.0 in
    let p = c.requires.1 in
    let ys = c.requires.2 in
    let e = drop_read xs at.step-index x c.loop-step-test.true c.step-item.is in
    let P : List (TheStep ℕ) → Type 0 = λ zs. HasLeft th p (step_parts (plain_steps zs) ++ ys) at.self in
    let h = subst P e (at.invariant th p ys c.requires.3) in
    let rest = step_parts (plain_steps (drop (at.step-index + 1) xs)) ++ ys in
    record {
      ready = left_ready th p (Step (plain_step x)) rest at.self h;
      begun = left_behind th p (Step (plain_step x)) rest at.self h;
      sound = left_sound th p (Step (plain_step x) ∷ rest) at.self h;
    }

pub loop-step-preserved : goal.loop-step-preserved
loop-step-preserved c th p ys start =
    let at = c.loop-step in
    let xs = c.args.steps.now in
    let x = c.step-item.result in
    let e = drop_read xs at.step-index x c.loop-step-test.true c.step-item.is in
    let P : List (TheStep ℕ) → Type 0 = λ zs. HasLeft th p (step_parts (plain_steps zs) ++ ys) at.self in
    let h = subst P e (at.invariant th p ys start) in
    left_taken th p (Step (plain_step x)) (step_parts (plain_steps (drop (at.step-index + 1) xs)) ++ ys) at.self h c.take_step.new.self c.in_ok-take_step.ensures.took

pub returns : goal.returns
returns c th p ys start =
    let at = c.loop-step in
    let P : List (TheStep ℕ) → Type 0 = λ zs. HasLeft th p (step_parts (plain_steps zs) ++ ys) at.self in
    subst P (drop_all at.step-index c.args.steps.now c.loop-step-test.false) (at.invariant th p ys start)
