use Rattle.std.proofs.Common.{◌≡◌, ◌∷◌, ap, ◌∙◌}
use Rattle.circ_term.specs.Substitution.{instance}
use Rattle.circ_uses.specs.Fronts.{front}
use Rattle.circ_uses.specs.Uses.{layers_of, entries_of}
use Rattle.circ_uses.specs.Valuations.{by_of}
use Rattle.circ_tasks.specs.Tasks.{changes_job, jobs_of}
use Rattle.circ_place_steps.specs.Places.{occurrences_job}
use Rattle.circ_tasks.specs.declared.tasks.Task.TheVariants as task
use Rattle.circ_tasks.proofs.Stepping.{jobs_pushed}
use Rattle.circ_place_steps.proofs.place_steps.push_changes.Goals as goal

pub returns-clause-tasks : goal.returns-clause-tasks
returns-clause-tasks c =
    let fr = c.args.frame.now in
    let w = c.args.work.now in
    let x = c.in_ok-changes.changes in
    let by = c.in_ok-by.by in
    let middle : changes_job fr x (instance (by_of by.value) x.last) ≡ occurrences_job fr c.args.call.now c.args.place
    (layers_of fr.theory.now (front c.args.layers.now)) (entries_of fr.theory.now (front c.args.entries.now)) c.args.certificate.now c.args.ends.now =
    (λ i. changes_job fr x (instance (by_of (c.in_ok-by.ensures.cases i)) (c.in_ok-changes.ensures.last i))) ∙ c.in_ok-changes.ensures.job in
    jobs_pushed fr w.tasks.items c.push.new.self.items (task.FirstChange x by) c.in_ok-push.ensures.items ∙ ap (λ j. j ∷ jobs_of fr w) middle
