use Rattle.std.proofs.Common.{◌∷◌, ap, ◌∙◌}
use Rattle.circ_expansion.specs.Machine.{Empty_row}
use Rattle.circ_uses.specs.Fronts.{front}
use Rattle.circ_uses.specs.Uses.{layers_of, entries_of}
use Rattle.circ_written.specs.Values.{values_of}
use Rattle.circ_place_steps.specs.Places.{certificate_job, occurrences_job}
use Rattle.circ_tasks.specs.declared.tasks.Task.TheVariants as task
use Rattle.circ_tasks.proofs.Stepping.{jobs_pushed}
use Rattle.circ_place_steps.proofs.place_steps.begin_place.Goals as goal

pub returns-clause-tasks : goal.returns-clause-tasks
returns-clause-tasks c =
    let fr = c.args.frame.now in
    let w = c.args.work.now in
    let d = c.args.call.now in
    let x = c.args.certificate.now in
    let e = c.args.ends.now in
    let ls = layers_of fr.theory.now (front c.args.layers.now) in
    let es = entries_of fr.theory.now (front c.args.entries.now) in
    let between = jobs_pushed fr w.tasks.items c.push.new.self.items task.PutBetween c.in_ok-push.ensures.items in
    c.in_ok-push_side-2.ensures.tasks ∙ ap (λ js. certificate_job fr d es x e.left.value ∷ Empty_row ∷ js)
    (c.in_ok-push_side.ensures.tasks ∙ ap (λ js. certificate_job fr d es x e.right.value ∷ Empty_row ∷ js)
    (c.in_ok-push_changes.ensures.tasks ∙ ap (λ js. occurrences_job fr d c.args.place ls es x e ∷ js) between))

pub returns-clause-values : goal.returns-clause-values
returns-clause-values c =
    ap values_of (c.push_side-2.ensures.values ∙ c.push_side.ensures.values ∙ c.push_changes.ensures.values) ∙ c.in_ok-add_empty.ensures

pub returns-clause-left : goal.returns-clause-left
returns-clause-left c = c.push_side-2.ensures.left ∙ c.push_side.ensures.left ∙ c.push_changes.ensures.left
