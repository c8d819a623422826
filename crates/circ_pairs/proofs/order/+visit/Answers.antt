use Rattle.std.proofs.Common.{◌≡◌, ◌+◌, List, [], drop, refl, ap, sym, subst, ◌∙◌, arith}
use Rattle.std.proofs.lemmas.List.{drop_all}
use Rattle.circ_term.specs.Tree.{trees_of}
use Rattle.circ_term.proofs.Within.{drop_read, depth_at}
use Rattle.circ_pairs.specs.Variables.{Variable, AreNumberedFrom, seen_in, seen_in_all, numbered}
use Rattle.circ_pairs.proofs.Numbering.{numbered_are, seen_in_all_before}
use Rattle.circ_pairs.proofs.order.+visit.Goals as goal

pub visit_all-visit-requires : goal.visit_all-visit-requires
visit_all-visit-requires t c =
    let below = depth_at c.args.terms.now c.loop-term.term-index c.term-item.result c.loop-term-test.true c.term-item.is in
    (omega arith, tt)

pub visit_all-returns-then-not-branch-clause-answer : goal.visit_all-returns-then-not-branch-clause-answer
visit_all-returns-then-not-branch-clause-answer t c =
    let P : List Variable → Type 0 = AreNumberedFrom 0 in
    let read = drop_read c.args.terms.now c.loop-term.term-index c.term-item.result c.loop-term-test.true c.term-item.is in
    let whole = rw read at c.loop-term.invariant.0 in (
      (λ never. absurd (cc)),
      (λ a. rw c.if-not-branch.true at (c.in_ok-visit.ensures.answer.1
          (seen_in_all_before (trees_of (drop (c.loop-term.term-index + 1) c.args.terms.now)) (seen_in c.term-item.result (numbered 0 c.loop-term.sorts.items)) (subst P (sym whole) a)))),
    )

pub visit_all-returns-clause-answer : goal.visit_all-returns-clause-answer
visit_all-returns-clause-answer t c =
    let P : List Variable → Type 0 = AreNumberedFrom 0 in
    let done : drop c.loop-term.term-index c.args.terms.now ≡ [] = drop_all c.loop-term.term-index c.args.terms.now c.loop-term-test.false in
    let whole = rw done at c.loop-term.invariant.0 in
    ((λ _. subst P whole (numbered_are 0 c.loop-term.sorts.items)), (λ _. refl))

pub visit_all-loop-term-preserved : goal.visit_all-loop-term-preserved
visit_all-loop-term-preserved t c =
    let read = drop_read c.args.terms.now c.loop-term.term-index c.term-item.result c.loop-term-test.true c.term-item.is in
    let rest = trees_of (drop (c.loop-term.term-index + 1) c.args.terms.now) in
    let seen = rw c.if-not-branch.false at c.in_ok-visit.ensures.seen in
    (ap (seen_in_all rest) seen ∙ (rw read at c.loop-term.invariant.0), (λ few. c.in_ok-visit.ensures.few (c.loop-term.invariant.1 few)))
