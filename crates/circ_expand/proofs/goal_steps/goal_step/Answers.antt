use Rattle.std.proofs.Common.{◌≡◌, Option, ℕ, ap, sym, ◌∙◌}
use Rattle.std.specs.Option.{option_map_or}
use Rattle.circ_expansion.specs.Followed.{Open}
use Rattle.circ_book.specs.Histories.{history_at}
use Rattle.circ_tasks.specs.Tasks.{goal_stepped, target_of}
use Rattle.circ_tasks.specs.declared.calls.Call.{Call}
use Rattle.circ_tasks.proofs.Stepping.{steps_same}
use Rattle.circ_expand.proofs.goal_steps.goal_step.Goals as goal

pub returns-in-Some : goal.returns-in-Some
returns-in-Some c =
    let fr = c.args.frame.now in
    let w = c.args.work.now in
    let d = c.args.call.value in
    let h = history_at fr.table.now fr.book.now.nodes.items c.in-Some.number in
    let H = λ (o : Option ℕ). option_map_or (history_at fr.table.now fr.book.now.nodes.items) o Open in
    let same : (target_of fr d.goal).history ≡ h = ap (λ (x : Call). H x.goal.node) (sym c.deref.ensures) ∙ ap H c.in-Some.is in
    steps_same fr (goal_stepped fr d (target_of fr d.goal).history w) (goal_stepped fr d h w) c.number_step.new.work c.number_step.result
    (ap (λ x. goal_stepped fr d x w) same) c.number_step.ensures

pub returns-in-None : goal.returns-in-None
returns-in-None c =
    let fr = c.args.frame.now in
    let H = λ (o : Option ℕ). option_map_or (history_at fr.table.now fr.book.now.nodes.items) o Open in
    ap (λ h. goal_stepped fr c.args.call.value h c.args.work.now) (ap (λ (x : Call). H x.goal.node) (sym c.deref.ensures) ∙ ap H c.in-None.is)
