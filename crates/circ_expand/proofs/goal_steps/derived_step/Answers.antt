use Rattle.std.proofs.Common.{◌≡◌, [], ◌∷◌, map, refl, ap, sym, ◌∙◌, subst, Option, None, Some}
use Rattle.std.specs.Option.{option_map_or}
use Rattle.circ_term.specs.Tree.{sort_of}
use Rattle.circ_theory.specs.Fresh.{fresh_in}
use Rattle.circ_entry.specs.Entries.{derivative_at}
use Rattle.circ_expansion.specs.Followed.{Open}
use Rattle.circ_book.specs.Histories.{histories_of, history_at}
use Rattle.circ_expansion.specs.Expand.{Call as Use, child, extended, derive_call}
use Rattle.circ_expansion.specs.Machine.{all_uses}
use Rattle.circ_uses.specs.Fronts.{front, IsCut}
use Rattle.circ_uses.specs.Uses.{held_by, entries_of}
use Rattle.circ_uses.specs.Valuations.{by_of, valued_by}
use Rattle.circ_tasks.specs.Tasks.{call_of, background_in, earlier_history}
use Rattle.circ_uses.specs.declared.fronts.Cut.{Cut}
use Rattle.circ_tasks.specs.declared.tasks.Task.TheVariants as task
use Rattle.circ_tasks.specs.declared.tasks.Work.{Work}
use Rattle.circ_uses.specs.declared.uses.Held.{Held}
use Rattle.circ_tasks.proofs.Entering.{derived_on, derived_none}
use Rattle.circ_uses.proofs.Fronting.{entries_cut}
use Rattle.circ_tasks.proofs.Stepping.{jobs_pushed}
use Rattle.circ_expand.proofs.goal_steps.derived_step.Goals as goal

pub returns-in_default : goal.returns-in_default
returns-in_default c =
    let fr = c.args.frame.now in
    let d = c.args.call.now in
    let P : Option (Cut Held) → Type 0 = λ o. IsCut (front d.entries) o in
    derived_none fr d c.args.goal.now (histories_of (map (earlier_history fr c.args.number) c.args.children.now)) c.args.work.now
    (ap (entries_of fr.theory.now) (subst P c.in_default.is c.in_ok-entry.ensures))

pub returns : goal.returns
returns c =
    let fr = c.args.frame.now in
    let th = fr.theory.now in
    let w = c.args.work.now in
    let d = c.args.call.now in
    let g = c.args.goal.now in
    let x = c.in-Some.entry in
    let hs = histories_of (map (earlier_history fr c.args.number) c.args.children.now) in
    let e = held_by th x.last.value in
    let cs = entries_of th (front x.rest) in
    let new : Work = record w { tasks = c.push.new.self } in
    let P : Option (Cut Held) → Type 0 = λ o. IsCut (front d.entries) o in
    let entries : (call_of fr d).entries ≡ e ∷ cs = entries_cut th (front d.entries) x.last (front x.rest) (subst P c.in-Some.is c.in_ok-entry.ensures) in
    let history : option_map_or (history_at fr.table.now fr.book.now.nodes.items) c.child-child.result Open ≡ child th.derivatives (sort_of g.left) hs e.number =
    c.child-child.ensures ∙ (λ i. child th.derivatives (c.sort.ensures i) hs (c.deref-last.ensures i).number) in
    let by : by_of c.in_ok-by.by.value ≡ extended (derivative_at th e.number) (fresh_in g) (by_of d.by.value) (valued_by x.last.value.params.value) =
    c.in_ok-by.ensures
    ∙ (λ i. extended (derivative_at th (c.deref-last.ensures i).number) (fresh_in g) (by_of (c.deref-by.ensures i)) (valued_by (c.deref-last.ensures i).params.value)) in
    let same : call_of fr c.in_ok-next-2.next.value ≡ derive_call (all_uses (background_in fr)) (background_in fr) (call_of fr d) g hs e cs =
    ap (call_of fr) c.in_ok-next-2.ensures.ok
    ∙ (λ i. let y : Use = c.in_ok-next.ensures fr i in record y {
      entries = cs;
      along = None;
      goal = record { block = d.goal.block; history = history i };
      by = by i;
    }) in
    derived_on fr d g hs e cs (call_of fr c.in_ok-next-2.next.value) w new entries same
    (jobs_pushed fr w.tasks.items c.push.new.self.items (task.BeginUse c.in_ok-next-2.next) c.in_ok-push.ensures.items) refl refl
