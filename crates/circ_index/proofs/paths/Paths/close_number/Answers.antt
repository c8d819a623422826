use Rattle.std.proofs.Common.{sym, ◌∙◌, arith}
use Rattle.circ_nodes.specs.Named.{tree_at}
use Rattle.circ_index.proofs.Numbered.{closed_ground}
use Rattle.circ_index.proofs.paths.Paths.close_number.Goals as goal

pub returns-in_ok-put_child-2 : goal.returns-in_ok-put_child-2
returns-in_ok-put_child-2 c =
    closed_ground c.args.self.now.branches.keys (tree_at c.args.nodes.now c.args.number) c.args.end c.args.found.now.items c.put_child.new.nodes.items
    c.put_child-then-is_ground.new.nodes.items c.size.result (omega (arith, c.if-end-gt0.false)) (sym c.is_ground.ensures ∙ c.if-is_ground.true) c.size.ensures.exact
    c.in_ok-put_child.ensures c.in_ok-put_child-2.ensures
