use Rattle.std.proofs.Common.{◌∷◌, ap, ◌∙◌}
use Rattle.circ_expansion.specs.Machine.{Links as Links_job, Empty_row}
use Rattle.circ_tasks.specs.Tasks.{call_of, basis_of, links_at, jobs_of}
use Rattle.circ_tasks.specs.declared.tasks.Task.TheVariants as task
use Rattle.circ_tasks.proofs.Stepping.{jobs_pushed}
use Rattle.circ_link_steps.proofs.reason_steps.begin_sides.Goals as goal

pub returns-clause-tasks : goal.returns-clause-tasks
returns-clause-tasks c =
    let fr = c.args.frame.now in
    let w = c.args.work.now in
    let d = c.args.call.value in
    let b = c.args.basis.value in
    let chain = c.args.chain.now in
    let first = jobs_pushed fr w.tasks.items c.push.new.self.items
    (task.Links (record { call = c.in_ok-clone.field-0; basis = c.in_ok-clone-2.field-0; links = c.as_slice.result; term = c.args.right })) c.in_ok-push.ensures.items in
    let second = jobs_pushed fr c.push.new.self.items c.push-2.new.self.items task.EmptyRow c.in_ok-push-2.ensures.items in
    let third = jobs_pushed fr c.push-2.new.self.items c.push-3.new.self.items
    (task.Links (record { call = c.args.call; basis = c.args.basis; links = c.as_slice-2.result; term = c.args.left })) c.in_ok-push-3.ensures.items in
    third
    ∙ ap (λ ls. Links_job (call_of fr d) (basis_of fr b) (links_at fr ls) c.args.left ∷ jobs_of fr (record w { tasks = c.push-2.new.self })) c.as_slice-2.ensures.value
    ∙ ap (λ js. Links_job (call_of fr d) (basis_of fr b) (links_at fr chain.left.items) c.args.left ∷ js)
    (second ∙ ap (λ js. Empty_row ∷ js)
    (first ∙ (λ i. Links_job (call_of fr (c.in_ok-clone.ensures.cases i)) (basis_of fr (c.in_ok-clone-2.ensures.cases i)) (links_at fr (c.as_slice.ensures.value i)) c.args.right ∷ jobs_of fr w)))
