use Rattle.std.proofs.Common.{[]}
use Rattle.circ_pairs.specs.Variables.{seen_in}
use Rattle.circ_pairs.proofs.Numbering.{seen_in_pairs_before}
use Rattle.circ_pairs.proofs.order.in_order.Goals as goal

pub returns-then-not-branch : goal.returns-then-not-branch
returns-then-not-branch c =
    let first = rw c.new-sorts.ensures.items at c.in_ok-visit_sides.ensures.answer in
    ((λ never. absurd (cc)), (λ a. rw c.if-not-branch.true at (first.1 (seen_in_pairs_before c.args.conds.now (seen_in c.args.right.now (seen_in c.args.left.now [])) a))))
