use Rattle.std.proofs.Common.{◌∙◌}
use Rattle.circ_show.proofs.AttributeWords.{ended, not_begun}
use Rattle.circ_show.proofs.attributes.put_attributes.Goals as goal

pub returns-in_ok-push : goal.returns-in_ok-push
returns-in_ok-push c =
    c.in_ok-push.ensures.items
    ∙ ended _ _ _ _ _ _ _ _ _ _ _ _ _ c.if-begun.true c.in_ok-begun.ensures c.in_ok-begun-2.ensures c.in_ok-begun-3.ensures c.in_ok-begun-4.ensures

pub returns-else-begun : goal.returns-else-begun
returns-else-begun c =
    not_begun _ _ _ _ _ _ _ _ _ _ _ _ _ c.if-begun.false c.in_ok-begun.ensures c.in_ok-begun-2.ensures c.in_ok-begun-3.ensures c.in_ok-begun-4.ensures
