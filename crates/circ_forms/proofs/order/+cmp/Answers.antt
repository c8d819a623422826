use Rattle.std.proofs.Common.{◌∙◌, ◌<◌, length, get_or, arith, refl, ap, sym}
use Rattle.std.specs.Ordering.{ordering_then}
use Rattle.circ_term.specs.Tree.{depth_of}
use Rattle.circ_term.specs.Order.{tree_cmp}
use Rattle.circ_term.proofs.Order.{tree_same}
use Rattle.circ_theory.proofs.Lists.{all_read}
use Rattle.circ_nodes.proofs.Numbers.{all_below}
use Rattle.circ_nodes.specs.Named.{tree_at}
use Rattle.circ_forms.proofs.Ordered.{vars_told, apps_told, apps_apart, named_app, arg_less, numbers_apart, cmp_next, cmp_decided, cmp_end, decided_then}
use Rattle.circ_forms.proofs.order.+cmp.Goals as goal

pub cmp-returns-then-a-b : goal.cmp-returns-then-a-b
cmp-returns-then-a-b t c =
    let nodes = c.args.nodes.now in
    sym (ap (λ n. tree_cmp (tree_at nodes n) (tree_at nodes c.args.b)) c.if-a-b.true ∙ tree_same (tree_at nodes c.args.b))

pub cmp-returns-in-Variable-shape_at : goal.cmp-returns-in-Variable-shape_at
cmp-returns-in-Variable-shape_at t c =
    let nodes = c.args.nodes.now in
    let a = tree_at nodes c.args.a in
    let b = tree_at nodes c.args.b in
    vars_told a b _ _ _ _ _ _ c.then.result
    (c.in-Variable.ensures)
    (c.in-Variable-shape_at.ensures)
    c.cmp.ensures c.cmp-in-Variable-shape_at.ensures c.then.ensures

pub cmp-returns-in-Application-shape_at : goal.cmp-returns-in-Application-shape_at
cmp-returns-in-Application-shape_at t c =
    let nodes = c.args.nodes.now in
    let a = tree_at nodes c.args.a in
    let b = tree_at nodes c.args.b in
    let e = c.in-Variable.ensures in
    let d = c.in-Application-shape_at.ensures in
    rw (e, d.1) refl

pub cmp-returns-in-Variable-shape_at-2 : goal.cmp-returns-in-Variable-shape_at-2
cmp-returns-in-Variable-shape_at-2 t c =
    let nodes = c.args.nodes.now in
    let a = tree_at nodes c.args.a in
    let b = tree_at nodes c.args.b in
    let e = c.in-Application.ensures in
    let d = c.in-Variable-shape_at-2.ensures in
    rw (e.1, d) refl

pub cmp-cmp_all-requires : goal.cmp-cmp_all-requires
cmp-cmp_all-requires t c =
    let nodes = c.args.nodes.now in
    let a = tree_at nodes c.args.a in
    let b = tree_at nodes c.args.b in
    let e = c.in-Application.ensures in
    let d = c.in-Application-shape_at-2.ensures in
    let whole = named_app nodes a c.in-Application.op c.in-Application.sort c.in-Application.args.now e in
    (omega (arith, ap depth_of whole), (all_below nodes c.in-Application.args.now e.0 e.2, all_below nodes c.in-Application-shape_at-2.other_args.now d.0 d.2))

pub cmp-returns-in-Equal : goal.cmp-returns-in-Equal
cmp-returns-in-Equal t c =
    let nodes = c.args.nodes.now in
    let a = tree_at nodes c.args.a in
    let b = tree_at nodes c.args.b in
    let e = c.in-Application.ensures in
    let d = c.in-Application-shape_at-2.ensures in
    apps_told a b _ _ _ _ _ _ _ _ _ c.cmp_all.result
    (named_app nodes a c.in-Application.op c.in-Application.sort c.in-Application.args.now e)
    (named_app nodes b c.in-Application-shape_at-2.other_op c.in-Application-shape_at-2.other_sort c.in-Application-shape_at-2.other_args.now d)
    c.cmp-in-Application-shape_at-2.ensures c.in-Equal.is refl c.cmp-in-Equal.ensures c.cmp_all.ensures

pub cmp-returns-in_default : goal.cmp-returns-in_default
cmp-returns-in_default t c =
    let nodes = c.args.nodes.now in
    let a = tree_at nodes c.args.a in
    let b = tree_at nodes c.args.b in
    let e = c.in-Application.ensures in
    let d = c.in-Application-shape_at-2.ensures in
    apps_apart a b c.in-Application.op c.in-Application.sort c.in-Application-shape_at-2.other_op c.in-Application-shape_at-2.other_sort e.0 d.0
    c.cmp-in-Application-shape_at-2.result e.1 d.1 c.cmp-in-Application-shape_at-2.ensures c.in_default.not-Equal

pub cmp_all-cmp-requires : goal.cmp_all-cmp-requires
cmp_all-cmp-requires t c =
    let i = c.loop-i.i in
    let within_a : i < length c.args.a.now = omega arith in
    (omega (arith, arg_less c.args.nodes.now c.args.a.now i within_a), tt)

pub cmp_all-returns-then-a-i : goal.cmp_all-returns-then-a-i
cmp_all-returns-then-a-i t c =
    let i = c.loop-i.i in
    let nodes = c.args.nodes.now in
    let within_a : i < length c.args.a.now = omega arith in
    let within_b : i < length c.args.b.now = omega arith in
    let apart = numbers_apart nodes (get_or c.args.a.now i 0) (get_or c.args.b.now i 0) c.known.ensures.once
    (all_read _ c.args.a.now i 0 c.requires.first within_a) (all_read _ c.args.b.now i 0 c.requires.second within_b) c.if-a-i.true in
    decided_then c.cmp.result _ c.args.otherwise
    (cmp_decided nodes c.args.a.now c.args.b.now i c.cmp.result within_a within_b c.cmp.ensures apart ∙ c.loop-i.invariant)
    (λ e. apart (sym c.cmp.ensures ∙ e))

pub cmp_all-loop-i-preserved : goal.cmp_all-loop-i-preserved
cmp_all-loop-i-preserved t c =
    cmp_next c.args.nodes.now c.args.a.now c.args.b.now c.loop-i.i (omega arith) (omega arith) c.if-a-i.false ∙ c.loop-i.invariant

pub cmp_all-returns : goal.cmp_all-returns
cmp_all-returns t c =
    c.then.ensures
    ∙ ap (λ o. ordering_then o c.args.otherwise)
    (c.cmp-2.ensures ∙ cmp_end c.args.nodes.now c.args.a.now c.args.b.now c.loop-i.i (omega arith) (omega arith) (omega arith) ∙ c.loop-i.invariant)
