use Rattle.std.proofs.Common.{◌≡◌, ◌∷◌, ap, sym, ◌∙◌, Some}
use Rattle.circ_expansion.specs.Expand.{Yields, Call as Use}
use Rattle.circ_expansion.specs.Machine.{pending, Begin_use}
use Rattle.circ_uses.specs.Fronts.{front}
use Rattle.circ_uses.specs.Uses.{layers_of, entries_of, held_by}
use Rattle.circ_written.specs.Values.{values_of}
use Rattle.circ_tasks.specs.Tasks.{call_of, jobs_of}
use Rattle.circ_tasks.specs.declared.tasks.Task.TheVariants as task
use Rattle.circ_uses.proofs.Fronting.{entries_cut}
use Rattle.circ_tasks.proofs.Stepping.{jobs_pushed}
use Rattle.circ_expand.proofs.goal_steps.entry_step.Goals as goal

pub returns : goal.returns
returns c =
    let fr = c.args.frame.now in
    let th = fr.theory.now in
    let w = c.args.work.now in
    let d = c.args.call.now in
    let u = c.in_ok-next-2.next in
    let h = c.args.held.now in
    let entries : entries_of th (front c.in_ok-entries.entries) ≡ held_by th h.value ∷ (call_of fr d).entries =
    entries_cut th (front c.in_ok-entries.entries) c.in_ok-clone.field-0 (front d.entries) c.in_ok-entries.ensures
    ∙ (λ i. held_by th (c.in_ok-clone.ensures.cases i) ∷ (call_of fr d).entries) in
    let same : call_of fr u.value ≡ record (call_of fr d) { entries = held_by th h.value ∷ (call_of fr d).entries; along = Some (layers_of th (front c.args.rest.now)) } =
    ap (call_of fr) c.in_ok-next-2.ensures.ok
    ∙ (λ i. let y : Use = c.in_ok-next.ensures fr i in record y { entries = entries i; along = Some (layers_of th (c.in_ok-layers.ensures i)) }) in
    let pushed = jobs_pushed fr w.tasks.items c.push.new.self.items (task.BeginUse u) c.in_ok-push.ensures.items in
    (λ i. Yields (pending (Begin_use (sym same i) ∷ jobs_of fr w) (values_of w.values)) w.left) ∙ (λ i. Yields (pending (sym pushed i) (values_of w.values)) w.left)
