use Rattle.std.proofs.Common.{sym, arith}
use Rattle.std.proofs.lemmas.List.{take_all}
use Rattle.circ_nodes.specs.Rows.{roots, row_weight}
use Rattle.circ_nodes.proofs.Laying.{length_roots, laid_left, roots_cut}
use Rattle.circ_nodes.proofs.Places.{map_taken}
use Rattle.circ_nodes.proofs.rows.Rows.truncate.Goals as goal

pub returns-then-count-len-clause-roots : goal.returns-then-count-len-clause-roots
returns-then-count-len-clause-roots c =
    let l = c.args.self.now in
    sym (take_all c.args.count (roots l) (omega (arith, length_roots l.args.items 0 l.rows.items, c.if-count-len.true, c.len.ensures, l.rows.ok.0)))

pub returns-clause-rows : goal.returns-clause-rows
returns-clause-rows c =
    let l = c.args.self.now in
    rw (c.truncate.ensures.items, c.truncate-2.ensures.items, c.begin-end.ensures) (laid_left l.args.items l.rows.items c.args.count c.requires.rows)

pub returns-clause-roots : goal.returns-clause-roots
returns-clause-roots c =
    let l = c.args.self.now in
    rw (c.truncate.ensures.items, c.truncate-2.ensures.items, c.begin-end.ensures) (roots_cut l.args.items l.rows.items c.args.count c.requires.rows)

pub returns-clause-weights : goal.returns-clause-weights
returns-clause-weights c = rw (c.truncate.ensures.items) (map_taken row_weight c.args.count c.args.self.now.rows.items)
