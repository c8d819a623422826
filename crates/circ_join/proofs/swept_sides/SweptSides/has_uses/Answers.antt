use Rattle.std.proofs.Common.{sym, ◌∙◌}
use Rattle.circ_join.proofs.Sides.{has_left_uses}
use Rattle.circ_join.proofs.swept_sides.SweptSides.has_uses.Goals as goal

pub returns-then-not-is_empty : goal.returns-then-not-is_empty
returns-then-not-is_empty c =
    sym (has_left_uses c.args.self.now.left.uses.items c.args.self.now.right.uses.items
    (rw c.as_slice.ensures.value at (sym c.is_empty.ensures ∙ c.if-not-is_empty.true)))
