use Rattle.std.proofs.Common.{◌≡◌, ap, sym, ◌∙◌, None, Some}
use Rattle.std.specs.Option.{option_map}
use Rattle.circ_term.specs.Limits.{first_limit}
use Rattle.circ_expansion.specs.Machine.{Enter_use, use_step, all_uses}
use Rattle.circ_uses.specs.Fronts.{front}
use Rattle.circ_uses.specs.Uses.{layers_of}
use Rattle.circ_written.specs.Values.{values_of}
use Rattle.circ_tasks.specs.Tasks.{call_of, background_in, jobs_of, stepped}
use Rattle.circ_tasks.specs.declared.calls.Call.{Call}
use Rattle.circ_tasks.proofs.Entering.{entered_on}
use Rattle.circ_tasks.proofs.Stepping.{steps_same}
use Rattle.circ_expand.proofs.goal_steps.use_step.Goals as goal

pub returns-in_default : goal.returns-in_default
returns-in_default c =
    let fr = c.args.frame.now in
    let f = background_in fr in
    let w = c.args.work.now in
    let d = c.args.call.value in
    let whole : first_limit d.whole ≡ None = ap (λ (x : Call). first_limit x.whole) (sym c.deref-held.ensures) ∙ c.known.ensures in
    let along : (call_of fr d).along ≡ None =
    ap (λ (x : Call). (call_of fr x).along) (sym c.deref-held.ensures) ∙ ap (option_map (λ xs. layers_of fr.theory.now (front xs))) c.in_default.is in
    steps_same fr (stepped fr (Enter_use (call_of fr d)) w) (use_step (all_uses f) f (call_of fr d) None (jobs_of fr w) (values_of w.values) w.left) c.goal_step.new.work
    c.goal_step.result (entered_on fr d w None whole along) c.goal_step.ensures

pub returns : goal.returns
returns c =
    let fr = c.args.frame.now in
    let f = background_in fr in
    let w = c.args.work.now in
    let d = c.args.call.value in
    let xs = front c.in-Some.layers in
    let whole : first_limit d.whole ≡ None = ap (λ (x : Call). first_limit x.whole) (sym c.deref-held.ensures) ∙ c.known.ensures in
    let along : (call_of fr d).along ≡ Some (layers_of fr.theory.now xs) =
    ap (λ (x : Call). (call_of fr x).along) (sym c.deref-held.ensures) ∙ ap (option_map (λ ys. layers_of fr.theory.now (front ys))) c.in-Some.is in
    steps_same fr (stepped fr (Enter_use (call_of fr d)) w) (use_step (all_uses f) f (call_of fr d) (Some (layers_of fr.theory.now xs)) (jobs_of fr w) (values_of w.values) w.left)
    c.along_step.new.work c.along_step.result (entered_on fr d w (Some (layers_of fr.theory.now xs)) whole along) (c.along_step.ensures xs c.in_ok-cut.ensures)
