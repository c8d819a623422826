use Rattle.std.proofs.Common.{ℕ, List, take, ◌++◌, ◌∷◌, unwrap_or, ap, sym, subst, ◌∙◌}
use Rattle.std.specs.Result.{IfOk}
use Rattle.circ_term.specs.Tree.{at}
use Rattle.circ_expansion.specs.Expand.{Visible_case, By_entry, entry_in, places_on}
use Rattle.circ_uses.specs.Guards.{plain_guard}
use Rattle.circ_uses.specs.Fronts.{front}
use Rattle.circ_tasks.specs.Tasks.{FindsCase, IsAlong, layers_in}
use Rattle.circ_tasks.specs.declared.calls.Call.{Call}
use Rattle.circ_uses.specs.declared.guards.Guard.{Guard}
use Rattle.circ_place_steps.proofs.AtPlaces.{finds_visible, finds_place, finds_hidden}
use Rattle.circ_uses.proofs.Fronting.{layers_shared}
use Rattle.circ_place_steps.proofs.change_steps.occurrence_call.Goals as goal

pub returns-in-Visible : goal.returns-in-Visible
returns-in-Visible c =
    let fr = c.args.frame.now in
    let x = c.args.changes.now in
    let p = c.args.path.now in
    let r = c.visible_call.result in
    let P : List ℕ → Type 0 = λ q. IfOk r (FindsCase fr x c.args.whole q c.args.here.now (Visible_case c.in-Visible.number q)) in
    let G : Guard → Type 0 = λ g. IfOk r (FindsCase fr x c.args.whole p c.args.here.now (plain_guard p g)) in
    subst G (sym c.in-Visible.is) (finds_visible fr x c.args.whole p (take c.in-Visible.above p) c.args.here.now c.in-Visible.number r
    (subst P c.first-above.ensures c.visible_call.ensures))

pub returns-in_ok-along-in-Place : goal.returns-in_ok-along-in-Place
returns-in_ok-along-in-Place c =
    let fr = c.args.frame.now in
    let x = c.args.changes.now in
    let p = c.args.path.now in
    let here = c.args.here.now in
    let r = c.with_layers.result in
    let ys = c.in_ok-along-in-Place.along in
    let G : Guard → Type 0 = λ g. IfOk r (FindsCase fr x c.args.whole p here (plain_guard p g)) in
    let P : Call → Type 0 = λ d. IfOk r (IsAlong d c.args.whole ys) in
    subst G (sym c.in-Place.is) (finds_place fr x c.args.whole p here ys r
    (c.in_ok-along-in-Place.ensures ∙ ap (λ ls. places_on here p ++ ls) (layers_shared fr.theory.now c.in_ok-layers-in-Place.layers.items (front x.layers) c.in_ok-layers-in-Place.ensures))
    (subst P c.deref.ensures c.with_layers.ensures))

pub returns-in_ok-along-in-Hidden : goal.returns-in_ok-along-in-Hidden
returns-in_ok-along-in-Hidden c =
    let fr = c.args.frame.now in
    let th = fr.theory.now in
    let x = c.args.changes.now in
    let p = c.args.path.now in
    let here = c.args.here.now in
    let k = c.in-Hidden.number in
    let q = take c.in-Hidden.above p in
    let r = c.with_layers-in-Hidden.result in
    let ys = c.in_ok-along-in-Hidden.along in
    let G : Guard → Type 0 = λ g. IfOk r (FindsCase fr x c.args.whole p here (plain_guard p g)) in
    let P : Call → Type 0 = λ d. IfOk r (IsAlong d c.args.whole ys) in
    let entry = c.in_ok-add_entry_at-in-Hidden.ensures ∙ ap (λ ls. By_entry (entry_in th k (unwrap_or (at here c.first-above-in-Hidden.result.now) here)) ∷ ls)
    (layers_shared th c.in_ok-layers-in-Hidden.layers.items (front x.layers) c.in_ok-layers-in-Hidden.ensures) in
    let along = c.in_ok-along-in-Hidden.ensures ∙ ap (λ ls. places_on here c.first-above-in-Hidden.result.now ++ ls) entry in
    subst G (sym c.in-Hidden.is) (finds_hidden fr x c.args.whole p q here k ys r
    (along ∙ ap (λ s. places_on here s ++ By_entry (entry_in th k (unwrap_or (at here s) here)) ∷ layers_in fr x.layers) c.first-above-in-Hidden.ensures)
    (subst P c.deref-in-Hidden.ensures c.with_layers-in-Hidden.ensures))

pub returns-in-Nothing : goal.returns-in-Nothing
returns-in-Nothing c = ap (plain_guard c.args.path.now) c.in-Nothing.is
