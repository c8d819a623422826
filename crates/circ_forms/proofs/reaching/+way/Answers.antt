use Rattle.circ_theory.specs.Operators.{operator_of}
use Rattle.circ_nodes.specs.Named.{tree_at}
use Rattle.circ_forms.proofs.Ways.{way_repeated, way_moves}
use Rattle.circ_forms.proofs.reaching.+way.Goals as goal

pub returns-then-is_repeated : goal.returns-then-is_repeated
returns-then-is_repeated t c =
    let nodes = c.args.nodes.now in
    let o = operator_of c.args.decl.now in
    let whole = tree_at nodes c.args.number in
    let a = tree_at nodes c.in-Some.first in
    let b = tree_at nodes c.in-Some.second in
    way_moves nodes o c.args.op whole a
    (way_repeated o c.args.op whole a b c.is_repeated.result c.in-Some.ensures.2 c.if-decl.false c.is_repeated.ensures c.if-is_repeated.true)
    c.way.result c.way.ensures
