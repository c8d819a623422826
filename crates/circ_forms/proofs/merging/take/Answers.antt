use Rattle.circ_theory.specs.Operators.{operator_of}
use Rattle.circ_nodes.specs.Named.{tree_at}
use Rattle.circ_forms.proofs.Placed.{first_alone, second_alone}
use Rattle.circ_forms.proofs.Taken.{if_same}
use Rattle.circ_forms.proofs.merging.take.Goals as goal

pub returns-then-is_single-clause-takes : goal.returns-then-is_single-clause-takes
returns-then-is_single-clause-takes c =
    let nodes = c.args.nodes.now in
    let o = operator_of c.args.decl.now in
    if_same nodes o c.args.op _ _ c.args.parts.now.items c.take_in_place.new.parts.items c.take_in_place.result
    (first_alone o c.args.op (tree_at nodes c.args.first) (tree_at nodes c.args.second) c.if-not-decl.false
    (c.is_single.ensures.0 c.if-is_single.true))
    c.take_in_place.ensures.takes

pub returns-then-is_single-2-clause-takes : goal.returns-then-is_single-2-clause-takes
returns-then-is_single-2-clause-takes c =
    let nodes = c.args.nodes.now in
    let o = operator_of c.args.decl.now in
    if_same nodes o c.args.op _ _ c.args.parts.now.items c.take_in_place-then-is_single-2.new.parts.items c.take_in_place-then-is_single-2.result
    (second_alone o c.args.op (tree_at nodes c.args.first) (tree_at nodes c.args.second) c.if-not-decl.false c.requires.first.row
    (c.is_single-2.ensures.0 c.if-is_single-2.true))
    c.take_in_place-then-is_single-2.ensures.takes
