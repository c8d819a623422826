use Rattle.std.proofs.Common.{◌≡◌, ◌∷◌, unwrap_or, ap, ◌∙◌}
use Rattle.circ_term.specs.Tree.{at}
use Rattle.circ_expansion.specs.Expand.{By_entry, entry_in}
use Rattle.circ_uses.specs.Uses.{layer_by, layers_of}
use Rattle.circ_tasks.proofs.Entering.{layers_last}
use Rattle.circ_place_steps.proofs.change_steps.add_entry_at.Goals as goal

pub returns : goal.returns
returns c =
    let th = c.args.frame.now.theory.now in
    let e = c.in_ok-entry.entry in
    let old = c.args.layers.now.items in
    let here = c.args.here.now in
    let entry : layer_by th e.value ≡ By_entry (entry_in th c.args.number (unwrap_or (at here c.args.path.now) here)) =
    ap (layer_by th) c.in_ok-entry.ensures.ok ∙ ap By_entry c.in_ok-held.ensures in
    ap (layers_of th) c.in_ok-push.ensures.items ∙ layers_last th e old ∙ ap (λ l. l ∷ layers_of th old) entry
