use Rattle.std.proofs.Common.{◌∙◌, length, ap}
use Rattle.circ_nodes.specs.Named.{tree_at}
use Rattle.circ_forms.proofs.Placed.{rest_shorter, drop_first}
use Rattle.circ_forms.proofs.Taken.{row_parts}
use Rattle.circ_forms.proofs.placing.+rest_at.Goals as goal

pub returns-in-Some : goal.returns-in-Some
returns-in-Some t c = λ o r h.
    let e = c.in-Some.ensures in
    let parts = row_parts o c.args.op (tree_at c.args.nodes.now c.args.row) _ _ r.row e.2 in
    let some = c.if-place-eq0.false in
    let rest = c.rest_at.ensures o (record { there = e.1; row = parts.rest }) (rest_shorter c.args.place _ _ some h (ap length parts.joins)) in
    (rest.0, rest.1 ∙ drop_first c.args.place _ _ _ some parts.joins)
