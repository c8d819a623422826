use Rattle.std.proofs.Common.{◌∷◌, ap, ◌∙◌}
use Rattle.std.specs.Option.{option_map_or}
use Rattle.circ_book.specs.Histories.{history_at}
use Rattle.circ_expansion.specs.Expand.{simplified_call}
use Rattle.circ_expansion.specs.Followed.{Open}
use Rattle.circ_expansion.specs.Machine.{Begin_use, Put_between, all_uses}
use Rattle.circ_tasks.specs.Tasks.{background_in, call_of, jobs_of, simpler_use}
use Rattle.circ_tasks.specs.declared.tasks.Simpler.{Simpler}
use Rattle.circ_tasks.specs.declared.tasks.Task.TheVariants as task
use Rattle.circ_tasks.proofs.Stepping.{jobs_pushed}
use Rattle.circ_expand.proofs.goal_steps.push_simpler.Goals as goal

pub returns-clause-tasks : goal.returns-clause-tasks
returns-clause-tasks c =
    let fr = c.args.frame.now in
    let f = background_in fr in
    let w = c.args.work.now in
    let h = option_map_or (history_at fr.table.now fr.book.now.nodes.items) c.args.next Open in
    let simpler : Simpler = record { call = c.in_ok-call.call; left = c.args.left; next = c.args.next } in
    let first = jobs_pushed fr w.tasks.items c.push.new.self.items task.PutBetween c.in_ok-push.ensures.items in
    let second = jobs_pushed fr c.push.new.self.items c.push-2.new.self.items (task.BeginSimpler simpler) c.in_ok-push-2.ensures.items in
    second ∙ ap (λ js. Begin_use (simpler_use fr simpler) ∷ js) first
    ∙ (λ i. Begin_use (simplified_call (all_uses f) f (call_of fr (c.in_ok-call.ensures.cases i)) c.args.left h) ∷ Put_between ∷ jobs_of fr w)
