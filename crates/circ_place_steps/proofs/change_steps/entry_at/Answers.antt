use Rattle.std.proofs.Common.{◌++◌, ◌∷◌, [], ap, ◌∙◌}
use Rattle.circ_uses.specs.Uses.{entries_of}
use Rattle.circ_place_steps.proofs.change_steps.entry_at.Goals as goal

pub returns : goal.returns
returns c =
    let th = c.args.frame.now.theory.now in
    ap (entries_of th) (c.in_ok-push.ensures.items ∙ ap (λ es. es ++ c.in_ok-entry_in.field-0 ∷ []) c.new-entries.ensures.items)
    ∙ ap (λ e. e ∷ []) c.in_ok-entry_in.ensures
