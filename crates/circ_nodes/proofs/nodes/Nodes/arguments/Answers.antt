use Rattle.std.proofs.Common.{◌≡◌, [], ap, sym, subst, ◌∙◌}
use Rattle.circ_term.specs.Tree.{Tree, Trees, args_of, trees_of}
use Rattle.circ_term.proofs.Trees.{trees_of-list_of}
use Rattle.circ_nodes.specs.Named.{AreNamed}
use Rattle.circ_nodes.proofs.nodes.Nodes.arguments.Goals as goal

pub returns-in-Variable : goal.returns-in-Variable
returns-in-Variable c = λ t named.
    let P : Tree → Type 0 = λ u. AreNamed c.args.self.now [] (trees_of (args_of u)) in
    subst P (sym (c.in-Variable.ensures.shape t named)) tt

pub returns-in-Application : goal.returns-in-Application
returns-in-Application c = λ t named.
    let app = c.in-Application in
    let there = app.ensures.shape t named in
    let args : trees_of (args_of t) ≡ there.0 = ap (λ u. trees_of (args_of u)) there.1 ∙ trees_of-list_of there.0 in
    let P : Trees → Type 0 = AreNamed c.args.self.now app.args.now in
    subst P (sym args) there.2
