use Rattle.circ_nodes.specs.Named.{tree_at}
use Rattle.circ_nodes.proofs.Located.{tree_named}
use Rattle.circ_forms.proofs.Joining.{not_two, both_there}
use Rattle.circ_forms.proofs.operands.operands.Goals as goal

pub returns-then-args-ne2 : goal.returns-then-args-ne2
returns-then-args-ne2 c =
    let t = tree_at c.args.nodes.now c.args.number in
    not_two c.args.nodes.now c.args.op c.in-Application.top c.in-Application.sort c.in-Application.args.now t
    (c.in-Application.ensures.shape t (tree_named c.args.nodes.now c.args.number c.requires)) c.if-args-ne2.true

pub returns-else-args-ne2 : goal.returns-else-args-ne2
returns-else-args-ne2 c =
    let t = tree_at c.args.nodes.now c.args.number in
    both_there c.args.nodes.now c.args.op c.in-Application.top c.in-Application.sort c.in-Application.args.now t
    (c.in-Application.ensures.shape t (tree_named c.args.nodes.now c.args.number c.requires)) c.if-top-op.false c.if-args-ne2.false
