use Rattle.std.proofs.Common.{◌≡◌, ◌∷◌, ap, ◌∙◌}
use Rattle.circ_expansion.specs.Expand.{By_entry}
use Rattle.circ_uses.specs.Fronts.{front}
use Rattle.circ_uses.specs.Uses.{held_by, layer_by, layers_of}
use Rattle.circ_uses.specs.declared.uses.Layer.TheVariants as layer
use Rattle.circ_tasks.proofs.Entering.{layers_last}
use Rattle.circ_uses.proofs.Fronting.{layers_shared}
use Rattle.circ_place_steps.proofs.place_steps.through.Goals as goal

pub returns : goal.returns
returns c =
    let th = c.args.frame.now.theory.now in
    let p = c.in_ok-place.place in
    let e = c.in_ok-entry.entry in
    let outer = ap (layers_of th) c.in_ok-push-2.ensures.items ∙ layers_last th e c.push.new.self.items in
    let inner = ap (layers_of th) c.in_ok-push.ensures.items ∙ layers_last th p c.in_ok-through.through.items in
    let entry : layer_by th e.value ≡ By_entry (held_by th c.args.entry.now.value) =
    ap (layer_by th) c.in_ok-entry.ensures.ok ∙ (λ i. By_entry (held_by th (c.in_ok-held.ensures.cases i))) in
    let place : layer_by th p.value ≡ layer_by th (layer.Place c.args.term.now c.args.arg) =
    ap (layer_by th) c.in_ok-place.ensures.ok ∙ (λ i. layer_by th (layer.Place (c.in_ok-term.ensures.same i) c.args.arg)) in
    outer ∙ (λ i. entry i ∷ (inner ∙ (λ j. place j ∷ layers_shared th c.in_ok-through.through.items (front c.args.layers.now) c.in_ok-through.ensures j)) i)
