use Rattle.std.proofs.Common.{◌≡◌, ◌∷◌, [], ap, sym, subst, map, ◌∙◌, length}
use Rattle.circ_term.specs.Tree.{App, trees_of}
use Rattle.circ_nodes.specs.Named.{tree_at}
use Rattle.circ_aci.specs.Content.{leaves}
use Rattle.circ_weigh.proofs.Summing.{leaf_top, leaf_count, two_args, two_there, taken, args_there, args_length}
use Rattle.circ_weigh.proofs.weighing.operands.Goals as goal

pub returns-then-top-op : goal.returns-then-top-op
returns-then-top-op c =
    let nodes = c.args.nodes.now in
    let app = c.in-Application in
    let is = taken nodes c.args.number app.top app.sort app.args.now c.requires app.ensures.shape in
    subst (λ t. leaves c.args.op t ≡ t ∷ []) (sym is) (leaf_top c.args.op app.top app.sort (trees_of (map (tree_at nodes) app.args.now)) (λ e. c.if-top-op.true (sym e)))

pub returns-then-args-ne2 : goal.returns-then-args-ne2
returns-then-args-ne2 c =
    let nodes = c.args.nodes.now in
    let app = c.in-Application in
    let is = taken nodes c.args.number app.top app.sort app.args.now c.requires app.ensures.shape in
    let long = args_length nodes c.args.number app.top app.sort app.args.now c.requires app.ensures.shape in
    subst (λ t. leaves c.args.op t ≡ t ∷ []) (sym is) (leaf_count c.args.op app.top app.sort (trees_of (map (tree_at nodes) app.args.now)) (λ e. c.if-args-ne2.true (sym long ∙ e)))

pub returns-else-args-ne2 : goal.returns-else-args-ne2
returns-else-args-ne2 c =
    let nodes = c.args.nodes.now in
    let app = c.in-Application in
    let is = taken nodes c.args.number app.top app.sort app.args.now c.requires app.ensures.shape in
    let there = two_there (length nodes) app.args.now c.if-args-ne2.false (args_there nodes c.args.number app.top app.sort app.args.now c.requires app.ensures.shape) in
    (app.sort, is ∙ ap (λ f. App f app.sort (trees_of (map (tree_at nodes) app.args.now))) c.if-top-op.false ∙ ap (App c.args.op app.sort) (two_args nodes app.args.now c.if-args-ne2.false), there.0, there.1)
