use Rattle.std.proofs.Common.{List, map, subst, ap, ◌∙◌}
use Rattle.std.specs.Prelude.{IfOk}
use Rattle.circ_term.specs.Tree.{Tree}
use Rattle.circ_nodes.specs.Named.{tree_at}
use Rattle.circ_shared.specs.Binding.{Binds}
use Rattle.circ_shared.proofs.Giving.{all_named, named_by_table}
use Rattle.circ_shared.proofs.binding.bind.Goals as goal

pub give-requires-clause-terms : goal.give-requires-clause-terms
give-requires-clause-terms c =
    rw (c.as_slice.ensures, c.in_ok-terms.ensures)
    (all_named c.args.nodes.now c.args.table.now c.args.terms.now c.requires.table c.requires.in_table)

pub returns : goal.returns
returns c = λ vs are.
    let nodes = c.args.nodes.now in
    let same = ap (map (tree_at nodes)) (c.as_slice.ensures ∙ c.in_ok-terms.ensures)
    ∙ named_by_table nodes c.args.table.now c.args.terms.now c.requires.in_table in
    let P : List Tree → Type 0 = λ ts. IfOk c.give.result (Binds nodes vs ts c.give.new.made.entries) in
    subst P same (c.give.ensures vs are)
