use Rattle.std.proofs.Common.{◌≡◌, arith, ap, sym, length, [], ◌∙◌}
use Rattle.circ_table.specs.Lines.{trees}
use Rattle.circ_table.specs.Held.{trees_held}
use Rattle.circ_table.proofs.Placing.{length_trees}
use Rattle.circ_table.proofs.table.Table.line.Goals as goal

pub line-requires-clause-place : goal.line-requires-clause-place
line-requires-clause-place c =
    let l = c.in-Lines.lines.value in
    let shown : length c.args.self.now ≡ length (trees l) = ap length (sym c.self.view_is ∙ ap trees_held c.in-Lines.is) in
    omega (arith, length_trees l.args.items [] 0 l.rows.items, c.requires, shown, ap (λ x. length x.rows.items) c.deref.ensures)
