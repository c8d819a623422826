use Rattle.std.proofs.Common.{◌≡◌, ◌+◌, ap, arith}
use Rattle.circ_term.specs.Tree.{trees_of, sizes_of, depths_of}
use Rattle.circ_table.proofs.Growing.{app_node, app_within}
use Rattle.circ_table.proofs.open_table.OpenTable.add_application.Goals as goal

pub push-requires-clause-node : goal.push-requires-clause-node
push-requires-clause-node c =
    let ts = c.requires.firsts.0 in
    let e = c.requires.firsts.1 in
    let m = c.measure-sizes in
    let size : m.result.0 + 1 ≡ sizes_of (trees_of ts) + 1 = ap (λ n. n + 1) (m.ensures.sizes ts e) in
    let deep : m.result.1 + 1 ≡ depths_of (trees_of ts) + 1 = ap (λ n. n + 1) (m.ensures.depths ts e) in
    app_node c.args.self.now c.args.op c.args.sort c.args.args.now ts (m.result.0 + 1) (m.result.1 + 1) c.requires.few e size deep
    (app_within c.args.op c.args.sort ts (m.result.0 + 1) (m.result.1 + 1) (m.ensures.within ts e) size deep (omega arith) (omega arith))
