use Rattle.std.proofs.Common.{List, subst}
use Rattle.circ_term.specs.Tree.{Tree}
use Rattle.circ_nodes.specs.Named.{tree_at}
use Rattle.circ_nodes.specs.Roots.{HasWeight, trees_with}
use Rattle.circ_nodes.specs.Rows.{roots}
use Rattle.circ_nodes.proofs.Located.{tree_named}
use Rattle.circ_nodes.proofs.nodes.Nodes.weight.Goals as goal

pub returns : goal.returns
returns c =
    let nodes = trees_with (roots c.self.inside.rows) in
    let there = rw (← c.self.view_is) at c.requires in
    let P : List Tree → Type 0 = λ ts. HasWeight c.weight.result (tree_at ts c.args.number) in
    subst P c.self.view_is
    (c.self.invariant.kept.weighs c.args.number c.weight.result (tree_at nodes c.args.number) c.weight.ensures (tree_named nodes c.args.number there))
