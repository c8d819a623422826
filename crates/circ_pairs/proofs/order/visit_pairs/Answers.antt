use Rattle.std.proofs.Common.{◌≡◌, ◌+◌, List, [], drop, map, refl, ap, sym, subst, ◌∙◌}
use Rattle.std.proofs.lemmas.List.{drop_all}
use Rattle.circ_term.proofs.Within.{drop_read}
use Rattle.circ_pairs.specs.Pairs.{plain_pair}
use Rattle.circ_pairs.specs.Variables.{Variable, AreNumberedFrom, seen_in, seen_in_pairs, numbered}
use Rattle.circ_pairs.proofs.Numbering.{numbered_are, seen_in_pairs_before}
use Rattle.circ_pairs.proofs.order.visit_pairs.Goals as goal

pub returns-then-not-branch-clause-answer : goal.returns-then-not-branch-clause-answer
returns-then-not-branch-clause-answer c =
    let P : List Variable → Type 0 = AreNumberedFrom 0 in
    let p = c.pair-item.result in
    let read = drop_read c.args.pairs.now c.loop-pair.pair-index p c.loop-pair-test.true c.pair-item.is in
    let whole = rw read at c.loop-pair.invariant.0 in (
      (λ never. absurd (cc)),
      (λ a. rw c.if-not-branch.true at (c.in_ok-visit_sides.ensures.answer.1
          (seen_in_pairs_before (map plain_pair (drop (c.loop-pair.pair-index + 1) c.args.pairs.now)) (seen_in p.right (seen_in p.left (numbered 0 c.loop-pair.sorts.items))) (subst P (sym whole) a)))),
    )

pub returns-clause-answer : goal.returns-clause-answer
returns-clause-answer c =
    let P : List Variable → Type 0 = AreNumberedFrom 0 in
    let done : drop c.loop-pair.pair-index c.args.pairs.now ≡ [] = drop_all c.loop-pair.pair-index c.args.pairs.now c.loop-pair-test.false in
    let whole = rw done at c.loop-pair.invariant.0 in
    ((λ _. subst P whole (numbered_are 0 c.loop-pair.sorts.items)), (λ _. refl))

pub loop-pair-preserved : goal.loop-pair-preserved
loop-pair-preserved c =
    let read = drop_read c.args.pairs.now c.loop-pair.pair-index c.pair-item.result c.loop-pair-test.true c.pair-item.is in
    let rest = map plain_pair (drop (c.loop-pair.pair-index + 1) c.args.pairs.now) in
    let seen = rw c.if-not-branch.false at c.in_ok-visit_sides.ensures.seen in
    (ap (seen_in_pairs rest) seen ∙ (rw read at c.loop-pair.invariant.0), (λ few. c.in_ok-visit_sides.ensures.few (c.loop-pair.invariant.1 few)))
