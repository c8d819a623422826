use Rattle.std.proofs.Common.{ap, ◌∙◌, Some}
use Rattle.circ_term.specs.Tree.{args_of}
use Rattle.circ_table.specs.Lines.{plain}
use Rattle.circ_table.proofs.Placing.{root_known, own_args, own_is, own_before}
use Rattle.circ_table.proofs.lines.Lines.args.Goals as goal

pub returns-clause-args : goal.returns-clause-args
returns-clause-args c = λ t named.
    let l = c.args.self.now in
    let k = (root_known l.args.items l.rows.items c.args.place (plain c.root.result) c.requires.lines c.requires.place c.root.ensures).1 in
    own_args k ∙ ap (λ x. Some (args_of x)) (own_is k t named)

pub returns-clause-before : goal.returns-clause-before
returns-clause-before c =
    let l = c.args.self.now in own_before (root_known l.args.items l.rows.items c.args.place (plain c.root.result) c.requires.lines c.requires.place c.root.ensures).1
