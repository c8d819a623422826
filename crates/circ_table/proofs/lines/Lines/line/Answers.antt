use Rattle.std.proofs.Common.{ap, sym, ◌∙◌}
use Rattle.circ_term.specs.Tree.{args_of}
use Rattle.circ_table.specs.Lines.{plain, node_of}
use Rattle.circ_table.proofs.Placing.{root_known, own, own_args, own_before, own_is, own_node}
use Rattle.circ_table.proofs.lines.Lines.line.Goals as goal

pub returns-in-Variable-clause-line : goal.returns-in-Variable-clause-line
returns-in-Variable-clause-line c = λ t named.
    let l = c.args.self.now in
    let p = c.root-root.result in
    let k = (root_known l.args.items l.rows.items c.args.place (plain p) c.requires.lines c.requires.place c.root-root.ensures).1 in
    sym (own_is k t named) ∙ own_node k ∙ ap (λ b. node_of b p.name p.sort (args_of (own k))) c.in-Variable.is

pub returns-in-Application-clause-line : goal.returns-in-Application-clause-line
returns-in-Application-clause-line c = λ t named.
    let l = c.args.self.now in
    let p = c.root-root.result in
    let k = (root_known l.args.items l.rows.items c.args.place (plain p) c.requires.lines c.requires.place c.root-root.ensures).1 in (
      args_of (own k),
      sym (own_is k t named) ∙ own_node k ∙ ap (λ b. node_of b p.name p.sort (args_of (own k))) c.in-Application.is,
      own_args k,
    )

pub returns-in-Application-clause-before : goal.returns-in-Application-clause-before
returns-in-Application-clause-before c =
    let l = c.args.self.now in
    own_before (root_known l.args.items l.rows.items c.args.place (plain c.root-root.result) c.requires.lines c.requires.place c.root-root.ensures).1
