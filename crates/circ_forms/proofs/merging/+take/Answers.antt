use Rattle.std.proofs.Common.{◌∙◌, ap, sym, arith}
use Rattle.std.specs.Ordering.{is_lt}
use Rattle.circ_theory.specs.Operators.{operator_of}
use Rattle.circ_aci.specs.Content.{leaves}
use Rattle.circ_aci.proofs.Finding.{leaves_leaf}
use Rattle.circ_merging.specs.Put.{merged}
use Rattle.circ_nodes.specs.Named.{tree_at}
use Rattle.circ_forms.specs.Taking.{behind}
use Rattle.circ_forms.proofs.Taken.{row_parts, starts_with, order_second, order_repeated, order_first, merged_end, taken_none, if_more, if_same}
use Rattle.circ_forms.proofs.merging.+take.Goals as goal

pub behind_first-take_in_order-requires : goal.behind_first-take_in_order-requires
behind_first-take_in_order-requires t c =
    let nodes = c.args.nodes.now in
    let e = c.in-Some.ensures in
    let parts = row_parts (operator_of c.args.decl.now) c.args.op (tree_at nodes c.args.first) _ _ c.requires.first.row e.2 in
    let less = parts.less in
    (omega arith, (c.requires.comm, (record { there = e.1; row = parts.rest }, (c.requires.second, c.requires.below))))

pub behind_second-take_in_order-requires : goal.behind_second-take_in_order-requires
behind_second-take_in_order-requires t c =
    let nodes = c.args.nodes.now in
    let e = c.in-Some.ensures in
    let parts = row_parts (operator_of c.args.decl.now) c.args.op (tree_at nodes c.args.second) _ _ c.requires.second.row e.2 in
    let less = parts.less in
    (omega arith, (c.requires.comm, (c.requires.first, (record { there = e.1; row = parts.rest }, c.requires.below))))

pub behind_first-returns-in-Some-clause-takes : goal.behind_first-returns-in-Some-clause-takes
behind_first-returns-in-Some-clause-takes t c =
    let nodes = c.args.nodes.now in
    let o = operator_of c.args.decl.now in
    let f = c.args.op in
    let e = c.in-Some.ensures in
    let parts = row_parts o f (tree_at nodes c.args.first) _ _ c.requires.first.row e.2 in
    if_same nodes o f _ _ c.args.parts.now.items c.take_in_order.new.parts.items c.take_in_order.result
    (ap (λ xs. merged o (behind xs) (leaves f (tree_at nodes c.args.second))) parts.joins) c.take_in_order.ensures.takes

pub behind_second-returns-in-Some-clause-takes : goal.behind_second-returns-in-Some-clause-takes
behind_second-returns-in-Some-clause-takes t c =
    let nodes = c.args.nodes.now in
    let o = operator_of c.args.decl.now in
    let f = c.args.op in
    let e = c.in-Some.ensures in
    let parts = row_parts o f (tree_at nodes c.args.second) _ _ c.requires.second.row e.2 in
    if_same nodes o f _ _ c.args.parts.now.items c.take_in_order.new.parts.items c.take_in_order.result
    (ap (λ xs. merged o (leaves f (tree_at nodes c.args.first)) (behind xs)) parts.joins) c.take_in_order.ensures.takes

pub behind_second-returns-in-None-clause-takes : goal.behind_second-returns-in-None-clause-takes
behind_second-returns-in-None-clause-takes t c =
    let nodes = c.args.nodes.now in
    let o = operator_of c.args.decl.now in
    let f = c.args.op in
    taken_none nodes o f _ c.args.parts.now.items c.args.first
    (ap (λ xs. merged o (leaves f (tree_at nodes c.args.first)) (behind xs)) (leaves_leaf f (tree_at nodes c.args.second) c.in-None.ensures)
    ∙ merged_end o (leaves f (tree_at nodes c.args.first)) c.requires.comm)
    c.requires.first

pub take_in_order-returns-then-is_lt-clause-takes : goal.take_in_order-returns-then-is_lt-clause-takes
take_in_order-returns-then-is_lt-clause-takes t c =
    let nodes = c.args.nodes.now in
    let o = operator_of c.args.decl.now in
    let f = c.args.op in
    let a = tree_at nodes c.args.first in
    let b = tree_at nodes c.args.second in
    let x = tree_at nodes c.first_in-x.result in
    let y = tree_at nodes c.first_in-y.result in
    if_more nodes o f _ _ c.args.parts.now.items c.behind_second.new.parts.items c.push.new.self.items c.first_in-y.result c.behind_second.result
    c.in_ok-push.ensures.items
    (order_second o x y (leaves f a) (leaves f b) c.requires.comm
    (starts_with o f a x c.requires.first.row c.first_in-x.ensures.first) (starts_with o f b y c.requires.second.row c.first_in-y.ensures.first)
    (sym (c.is_lt.ensures ∙ ap is_lt c.cmp.ensures) ∙ c.if-is_lt.true))
    c.behind_second.ensures.takes

pub take_in_order-returns-then-is_repeated-clause-takes : goal.take_in_order-returns-then-is_repeated-clause-takes
take_in_order-returns-then-is_repeated-clause-takes t c =
    let nodes = c.args.nodes.now in
    let o = operator_of c.args.decl.now in
    let f = c.args.op in
    let a = tree_at nodes c.args.first in
    let b = tree_at nodes c.args.second in
    let x = tree_at nodes c.first_in-x.result in
    let y = tree_at nodes c.first_in-y.result in
    if_same nodes o f _ _ c.args.parts.now.items c.behind_first.new.parts.items c.behind_first.result
    (order_repeated o x y (leaves f a) (leaves f b) c.requires.comm
    (starts_with o f a x c.requires.first.row c.first_in-x.ensures.first) (starts_with o f b y c.requires.second.row c.first_in-y.ensures.first)
    (sym (c.is_lt.ensures ∙ ap is_lt c.cmp.ensures) ∙ c.if-is_lt.false)
    (sym c.is_repeated.ensures ∙ c.if-is_repeated.true))
    c.behind_first.ensures.takes

pub take_in_order-returns-clause-takes : goal.take_in_order-returns-clause-takes
take_in_order-returns-clause-takes t c =
    let nodes = c.args.nodes.now in
    let o = operator_of c.args.decl.now in
    let f = c.args.op in
    let a = tree_at nodes c.args.first in
    let b = tree_at nodes c.args.second in
    let x = tree_at nodes c.first_in-x.result in
    let y = tree_at nodes c.first_in-y.result in
    if_more nodes o f _ _ c.args.parts.now.items c.behind_first-2.new.parts.items c.push-2.new.self.items c.first_in-x.result c.behind_first-2.result
    c.in_ok-push-2.ensures.items
    (order_first o x y (leaves f a) (leaves f b) c.requires.comm
    (starts_with o f a x c.requires.first.row c.first_in-x.ensures.first) (starts_with o f b y c.requires.second.row c.first_in-y.ensures.first)
    (sym (c.is_lt.ensures ∙ ap is_lt c.cmp.ensures) ∙ c.if-is_lt.false)
    (sym c.is_repeated.ensures ∙ c.if-is_repeated.false))
    c.behind_first-2.ensures.takes
