use Rattle.std.proofs.Common.{◌&&◌, ap, sym, ◌∙◌}
use Rattle.circ_term.specs.Order.{is_same}
use Rattle.circ_rounds.proofs.Standing.{test_is}
use Rattle.circ_rounds.proofs.run.are_same.Goals as goal

pub returns-then-same : goal.returns-then-same
returns-then-same c =
    let one = test_is c.same.result c.args.left.now c.args.pair.now.0 c.same.ensures in
    let other = test_is c.same-then-same.result c.args.right.now c.args.pair.now.1 c.same-then-same.ensures in
    other ∙ ap (λ b. b && is_same c.args.right.now c.args.pair.now.1) (sym c.if-same.true ∙ one)

pub returns-else-same : goal.returns-else-same
returns-else-same c =
    let one = test_is c.same.result c.args.left.now c.args.pair.now.0 c.same.ensures in
    c.if-same.false ∙ ap (λ b. b && is_same c.args.right.now c.args.pair.now.1) (sym c.if-same.false ∙ one)
