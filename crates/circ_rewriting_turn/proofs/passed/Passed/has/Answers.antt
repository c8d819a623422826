use Rattle.std.proofs.Common.{◌≡◌, ◌+◌, ap, sym, ◌∙◌, drop}
use Rattle.circ_term.proofs.Within.{drop_read}
use Rattle.circ_attempt.specs.Attempt.{has_stood}
use Rattle.circ_rewriting_turn.specs.Passed.{plain_passed}
use Rattle.circ_rewriting_turn.proofs.Stood.{stood_here, stood_on}
use Rattle.circ_rewriting_turn.proofs.passed.Passed.has.Goals as goal

pub returns-then-are : goal.returns-then-are
returns-then-are c =
    let l = c.args.left.now in
    let r = c.args.right.now in
    let items = c.deref-sides-items.result.now in
    let i = c.loop-sides.sides-index in
    let x = c.sides-item.result in
    sym (stood_here l r x (drop (i + 1) items) (sym c.are.ensures ∙ c.if-are.true)) ∙ ap (λ y. has_stood l r (plain_passed y)) (sym (drop_read items i x c.loop-sides-test.true c.sides-item.is))
    ∙ c.loop-sides.invariant

pub loop-sides-preserved : goal.loop-sides-preserved
loop-sides-preserved c =
    let l = c.args.left.now in
    let r = c.args.right.now in
    let items = c.deref-sides-items.result.now in
    let i = c.loop-sides.sides-index in
    let x = c.sides-item.result in
    sym (stood_on l r x (drop (i + 1) items) (sym c.are.ensures ∙ c.if-are.false)) ∙ ap (λ y. has_stood l r (plain_passed y)) (sym (drop_read items i x c.loop-sides-test.true c.sides-item.is))
    ∙ c.loop-sides.invariant
