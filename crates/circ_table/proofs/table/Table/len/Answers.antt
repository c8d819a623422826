use Rattle.std.proofs.Common.{◌≡◌, arith, ap, sym, length, [], ◌∙◌, vec_len}
use Rattle.circ_table.specs.Lines.{trees}
use Rattle.circ_table.specs.Held.{trees_held}
use Rattle.circ_table.proofs.Placing.{length_trees}
use Rattle.circ_table.proofs.table.Table.len.Goals as goal

pub returns-in-Lines : goal.returns-in-Lines
returns-in-Lines c =
    let l = c.in-Lines.lines.value in
    let shown : length c.args.self.now ≡ length (trees l) = ap length (sym c.self.view_is ∙ ap trees_held c.in-Lines.is) in
    omega (arith, length_trees l.args.items [] 0 l.rows.items, c.len.ensures, ap (λ x. vec_len x.rows) c.deref.ensures, l.rows.ok.0, shown)
