use Rattle.std.proofs.Common.{◌≡◌, ◌∷◌, Ok, Err, refl, ap, ◌∙◌}
use Rattle.std.specs.Option.{option_map_or}
use Rattle.circ_expansion.specs.Followed.{Open}
use Rattle.circ_book.specs.Histories.{history_at}
use Rattle.circ_expansion.specs.Expand.{link_setting, basis_in, simplified_call}
use Rattle.circ_expansion.specs.Pieces.{no_piece}
use Rattle.circ_expansion.specs.Machine.{In_row, all_uses}
use Rattle.circ_tasks.specs.Settings.{setting_of}
use Rattle.circ_written.specs.Values.{values_of}
use Rattle.circ_tasks.specs.Tasks.{call_of, basis_of, background_in, begun_sides}
use Rattle.circ_tasks.specs.declared.calls.Basis.{Basis}
use Rattle.circ_tasks.specs.declared.calls.Call.{Call}
use Rattle.circ_tasks.proofs.Entering.{simplified_on, simplified_past, built_sides}
use Rattle.circ_expand.proofs.goal_steps.simplified_step.Goals as goal

pub returns-in-Err : goal.returns-in-Err
returns-in-Err c =
    let fr = c.args.frame.now in
    let f = background_in fr in
    let s = c.side.result in
    let b = c.in_ok-basis.basis.value in
    let chain = c.args.chain.now in
    let h = option_map_or (history_at fr.table.now fr.book.now.nodes.items) c.args.next Open in
    let is = c.in_ok-basis.ensures ∙ ap (λ (x : Call). basis_in (all_uses f) f (call_of fr x)) c.deref-held.ensures in
    let same = c.side.ensures.setting ∙ ap (λ (x : Basis). link_setting f (basis_of fr x)) c.deref-own.ensures in
    simplified_past fr c.args.call.value b c.args.goal.now chain h c.args.work.now c.in-Err.fault is
    (built_sides (Err c.in-Err.fault) (setting_of s) (link_setting f (basis_of fr b)) s.table.now fr.table.now c.as_slice.result.now chain.left.items c.args.goal.now.left
    same c.side.ensures.table c.as_slice.ensures.value c.in-Err.ensures)

pub returns : goal.returns
returns c =
    let fr = c.args.frame.now in
    let f = background_in fr in
    let s = c.side.result in
    let w = c.args.work.now in
    let d = c.args.call.value in
    let b = c.in_ok-basis.basis.value in
    let g = c.args.goal.now in
    let chain = c.args.chain.now in
    let h = option_map_or (history_at fr.table.now fr.book.now.nodes.items) c.args.next Open in
    let is = c.in_ok-basis.ensures ∙ ap (λ (x : Call). basis_in (all_uses f) f (call_of fr x)) c.deref-held.ensures in
    let same = c.side.ensures.setting ∙ ap (λ (x : Basis). link_setting f (basis_of fr x)) c.deref-own.ensures in
    let built = built_sides (Ok c.in-Ok.left) (setting_of s) (link_setting f (basis_of fr b)) s.table.now fr.table.now c.as_slice.result.now chain.left.items g.left
    same c.side.ensures.table c.as_slice.ensures.value c.in-Ok.ensures in
    simplified_on fr d b g chain h c.in-Ok.left (simplified_call (all_uses f) f (call_of fr d) c.in-Ok.left h) w c.begin_goal.new.work is built.0 built.1 refl
    (c.in_ok-begin_goal.ensures.tasks ∙ ap (begun_sides fr d b chain g.left g.right)
    c.in_ok-push_simpler.ensures.tasks)
    (c.in_ok-begin_goal.ensures.values ∙ ap (λ vs. In_row no_piece ∷ values_of vs) c.push_simpler.ensures.values)
    (c.begin_goal.ensures.left ∙ c.push_simpler.ensures.left)
