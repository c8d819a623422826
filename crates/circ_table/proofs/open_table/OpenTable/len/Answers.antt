use Rattle.std.proofs.Common.{arith, ap, length, []}
use Rattle.circ_table.proofs.Placing.{length_trees}
use Rattle.circ_table.proofs.open_table.OpenTable.len.Goals as goal

pub returns : goal.returns
returns c =
    let l = c.self.inside.lines in omega (arith, length_trees l.args.items [] 0 l.rows.items, ap length c.self.view_is, c.len.ensures, l.rows.ok.0)
