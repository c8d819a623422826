use Rattle.std.proofs.Common.{ap, ◌∙◌}
use Rattle.circ_uses.specs.Uses.{layers_of}
use Rattle.circ_place_steps.proofs.change_steps.with_places.Goals as goal

pub returns : goal.returns
returns c =
    let th = c.args.frame.now.theory.now in
    ap (layers_of th) c.in_ok-of.ensures ∙ c.in_ok-add_places.ensures th
