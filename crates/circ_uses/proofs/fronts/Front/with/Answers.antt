use Rattle.std.proofs.Common.{◌++◌, ◌∷◌, [], ap, ◌∙◌}
use Rattle.circ_uses.specs.Fronts.{front, shared_in}
use Rattle.circ_uses.proofs.Fronting.{of_more, shared_last}
use Rattle.circ_uses.proofs.fronts.Front.with.Goals as goal

pub returns : goal.returns
returns g c =
    of_more c.of.result c.push.new.self.items (shared_in (front c.args.self.now) ++ c.args.item.value ∷ [])
    (ap shared_in c.in_ok-push.ensures.items ∙ shared_last c.in_ok-items.items.items c.args.item ∙ ap (λ vs. vs ++ c.args.item.value ∷ []) c.in_ok-items.ensures) c.of.ensures
