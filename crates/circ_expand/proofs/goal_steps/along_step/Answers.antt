use Rattle.std.proofs.Common.{◌≡◌, [], ◌∷◌, List, ap, sym, ◌∙◌, subst, Option, None, Some}
use Rattle.circ_expansion.specs.Expand.{Spending, Yields, Call as Use, Layer, By_entry}
use Rattle.circ_expansion.specs.Machine.{Pending, pending, Begin_use, along_step, all_uses}
use Rattle.circ_uses.specs.Fronts.{front, IsCut}
use Rattle.circ_uses.specs.Uses.{layers_of, layer_by, held_by}
use Rattle.circ_written.specs.Values.{values_of}
use Rattle.circ_tasks.specs.Tasks.{call_of, background_in, jobs_of, place_stepped}
use Rattle.circ_tasks.specs.declared.calls.Call.{Call}
use Rattle.circ_uses.specs.declared.fronts.Cut.{Cut}
use Rattle.circ_uses.specs.declared.uses.Layer.TheVariants as layer
use Rattle.circ_uses.specs.declared.uses.Layer.{Layer as Kept}
use Rattle.circ_tasks.specs.declared.tasks.Task.TheVariants as task
use Rattle.circ_uses.proofs.Fronting.{layers_cut}
use Rattle.circ_tasks.proofs.Stepping.{jobs_pushed, steps_same}
use Rattle.circ_expand.proofs.goal_steps.along_step.Goals as goal

pub returns-in_default : goal.returns-in_default
returns-in_default c = λ xs e.
    let fr = c.args.frame.now in
    let f = background_in fr in
    let w = c.args.work.now in
    let d = c.args.call.value in
    let u = c.in_ok-next-2.next in
    let P : Option (Cut Kept) → Type 0 = λ o. IsCut xs o in
    let none : xs ≡ [] = subst P c.in_default.is e in
    let same : call_of fr u.value ≡ record (call_of fr d) { along = None } =
    ap (call_of fr) c.in_ok-next-2.ensures.ok
    ∙ (λ i. let y : Use = (c.in_ok-next.ensures fr ∙ ap (call_of fr) c.deref-old.ensures) i in record y { along = None }) in
    let pushed = jobs_pushed fr w.tasks.items c.push.new.self.items (task.BeginUse u) c.in_ok-push.ensures.items in
    ap (λ ys. along_step (all_uses f) f (call_of fr d) (layers_of fr.theory.now ys) (jobs_of fr w) (values_of w.values) w.left) none
    ∙ (λ i. Yields (pending (Begin_use (sym same i) ∷ jobs_of fr w) (values_of w.values)) w.left)
    ∙ (λ i. Yields (pending (sym pushed i) (values_of w.values)) w.left)

pub returns-in-Entry : goal.returns-in-Entry
returns-in-Entry c = λ xs e.
    let fr = c.args.frame.now in
    let th = fr.theory.now in
    let f = background_in fr in
    let w = c.args.work.now in
    let x = c.in-Some.cut in
    let h = c.in-Entry.held in
    let rest = layers_of th (front x.rest) in
    let P : Option (Cut Kept) → Type 0 = λ o. IsCut xs o in
    let layers : layers_of th xs ≡ By_entry (held_by th h.value) ∷ rest =
    layers_cut th xs x.last (front x.rest) (subst P c.in-Some.is e) ∙ ap (λ y. layer_by th y ∷ rest) (sym c.deref-last.ensures ∙ c.in-Entry.is) in
    let A : Call → List Layer → Spending Pending = λ d ys. along_step (all_uses f) f (call_of fr d) ys (jobs_of fr w) (values_of w.values) w.left in
    steps_same fr (A c.args.call.value (layers_of th xs)) (A c.deref-old.result.now (By_entry (held_by th h.value) ∷ rest)) c.entry_step.new.work c.entry_step.result
    (λ i. A (sym c.deref-old.ensures i) (layers i)) c.entry_step.ensures

pub returns-in-Place : goal.returns-in-Place
returns-in-Place c = λ xs e.
    let fr = c.args.frame.now in
    let th = fr.theory.now in
    let f = background_in fr in
    let w = c.args.work.now in
    let d = c.args.call.value in
    let x = c.in-Some.cut in
    let t = c.in-Place.term in
    let n = c.in-Place.arg in
    let rest = layers_of th (front x.rest) in
    let P : Option (Cut Kept) → Type 0 = λ o. IsCut xs o in
    let layers : layers_of th xs ≡ layer_by th (layer.Place t n) ∷ rest =
    layers_cut th xs x.last (front x.rest) (subst P c.in-Some.is e) ∙ ap (λ y. layer_by th y ∷ rest) (sym c.deref-last.ensures ∙ c.in-Place.is) in
    steps_same fr (along_step (all_uses f) f (call_of fr d) (layers_of th xs) (jobs_of fr w) (values_of w.values) w.left)
    (place_stepped fr d t n rest w) c.place_step.new.work c.place_step.result
    (ap (λ (ys : List Layer). along_step (all_uses f) f (call_of fr d) ys (jobs_of fr w) (values_of w.values) w.left) layers) c.place_step.ensures
