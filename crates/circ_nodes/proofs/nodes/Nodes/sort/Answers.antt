use Rattle.std.proofs.Common.{ap, sym}
use Rattle.circ_term.specs.Tree.{sort_of}
use Rattle.circ_nodes.specs.Named.{tree_at}
use Rattle.circ_nodes.proofs.Located.{tree_named}
use Rattle.circ_nodes.proofs.nodes.Nodes.sort.Goals as goal

pub returns-in-Variable : goal.returns-in-Variable
returns-in-Variable c =
    let t = tree_at c.args.self.now c.args.number in
    sym (ap sort_of (c.in-Variable.ensures.shape t (tree_named c.args.self.now c.args.number c.requires)))

pub returns-in-Application : goal.returns-in-Application
returns-in-Application c =
    let t = tree_at c.args.self.now c.args.number in
    sym (ap sort_of (c.in-Application.ensures.shape t (tree_named c.args.self.now c.args.number c.requires)).1)
