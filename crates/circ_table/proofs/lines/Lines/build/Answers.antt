use Rattle.std.proofs.Common.{ap, sym, ◌∙◌, Some, arith, length}
use Rattle.circ_term.specs.Tree.{App, args_of, trees_of}
use Rattle.circ_table.specs.Lines.{plain, node_of}
use Rattle.circ_table.proofs.Placing.{root_known, own, own_there, own_node, own_few}
use Rattle.circ_table.proofs.lines.Lines.build.Goals as goal

pub returns-in-Variable : goal.returns-in-Variable
returns-in-Variable c =
    let l = c.args.self.now in
    let p = c.root-root.result in
    let k = (root_known l.args.items l.rows.items c.args.place (plain p) c.requires.lines c.requires.place c.root-root.ensures).1 in
    own_there k ∙ ap Some (own_node k ∙ ap (λ b. node_of b p.name p.sort (args_of (own k))) c.in-Variable.is ∙ sym c.var.ensures)

pub app-requires : goal.app-requires
app-requires c =
    let l = c.args.self.now in
    let k = (root_known l.args.items l.rows.items c.args.place (plain c.root-root.result) c.requires.lines c.requires.place c.root-root.ensures).1 in
    omega (arith, own_few k, ap length (c.requires.args (own k) (own_there k)))

pub returns-in-Ok : goal.returns-in-Ok
returns-in-Ok c =
    let l = c.args.self.now in
    let p = c.root-root.result in
    let k = (root_known l.args.items l.rows.items c.args.place (plain p) c.requires.lines c.requires.place c.root-root.ensures).1 in
    own_there k
    ∙ ap Some
    (own_node k ∙ ap (λ b. node_of b p.name p.sort (args_of (own k))) c.in-Application.is
    ∙ ap (λ ts. App p.name p.sort (trees_of ts)) (sym (c.requires.args (own k) (own_there k))) ∙ sym c.in-Ok.ensures.0)
