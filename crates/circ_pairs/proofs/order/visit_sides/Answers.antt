use Rattle.circ_pairs.specs.Variables.{seen_in, numbered}
use Rattle.circ_pairs.proofs.Numbering.{seen_in_before}
use Rattle.circ_pairs.proofs.order.visit_sides.Goals as goal

pub returns-then-not-branch-clause-answer : goal.returns-then-not-branch-clause-answer
returns-then-not-branch-clause-answer c =
    ((λ never. absurd (cc)), (λ a. rw c.if-not-branch.true at (c.in_ok-visit.ensures.answer.1 (seen_in_before c.args.right.now (seen_in c.args.left.now (numbered 0 c.args.sorts.now.items)) a))))
