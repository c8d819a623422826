-- What the conditions of a rule come to, one after the other, and each by itself.
use Rattle.std.proofs.Common.{◌≡◌, ◌+◌, ◌-◌, ◌≤◌, ◌<◌, map, drop, length, Some, None, Ok, Err, refl, ap, sym, subst, ◌∙◌, arith, drop_of_length-le}
use Rattle.std.specs.List.{slice_get}
use Rattle.std.proofs.lemmas.Option.{same_Some, slice_get_read}
use Rattle.circ_term.specs.Subst.{substitution_of}
use Rattle.circ_term.specs.Substitution.{instance}
use Rattle.circ_term.proofs.Limits.{within_limits}
use Rattle.circ_term.proofs.Within.{drop_read}
use Rattle.circ_theory.specs.Pairs.{plain_pair}
use Rattle.circ_rewrite.specs.Plain.{plain_passes, plain_traces}
use Rattle.circ_rewrite.specs.declared.parts.Rule.{Rule}
use Rattle.circ_nodes.proofs.Numbers.{named_below, named_later}
use Rattle.circ_due.specs.Bounds.{bounds_in}
use Rattle.circ_due.proofs.Givens.{bounds_later}
use Rattle.circ_conditional_norm.specs.Tries.{conditions_hold}
use Rattle.circ_tries.specs.Trying.{conditions_by, norm_by, FindsPasses, TestsCondition}
use Rattle.circ_tries.proofs.Measures.{depth_is}
use Rattle.circ_tries.proofs.Stores.{worked_on, ready_grown}
use Rattle.circ_tries.proofs.Holding.{first_hinders, second_hinders, numbers_tested, cond_hinders}
use Rattle.circ_tries.proofs.Tried.{holds_all, holds_not, holds_on, some_conditions, tried_some, tries_left}
use Rattle.circ_tries.proofs.settling.+settle.Goals as goal

-- ---- the conditions of a rule

pub tries : goal.try_rule-returns-clause-finds
tries t c = λ r g.
    let m = c.args.means.now in
    let k = c.args.budget.now in
    let rules = m.rules.items in
    let f = norm_by m (c.args.tries + 1) in
    let σ = substitution_of (bounds_in c.args.store.now.nodes c.args.given.now) in
    let q = c.index.result.now in
    let there : slice_get rules c.args.rule ≡ Some q = slice_get_read rules (length rules) c.args.rule q refl c.requires.rule c.index.ensures in
    let conds : map plain_pair c.as_slice-conds.result.now ≡ r.conds = c.as_slice-conds.ensures ∙ ap (λ (x : Rule). x.conds) (same_Some q r (sym there ∙ g)) in
    let few : c.args.tries < 8 = omega (arith, c.requires.ready.tries, c.if-tries-eq-MOST_TRIES.false) in
    let some = some_conditions plain_pair c.as_slice-conds.result.now r.conds c.is_empty.result conds c.is_empty.ensures c.if-is_empty.false in
    let same = tried_some (conditions_by m c.args.tries) σ f r.conds k some (tries_left m c.args.tries few) (omega (arith, c.if-budget-eq0.false)) in
    let finds = subst (λ ps. FindsPasses (λ passes. plain_passes passes.items) c.try_conditions.new.budget (conditions_hold f σ ps (k - 1)) c.try_conditions.result) conds
    c.try_conditions.ensures.finds in
    subst (λ w. FindsPasses (λ passes. plain_passes passes.items) c.try_conditions.new.budget w c.try_conditions.result) (sym same) finds

pub hinders : goal.try_conditions-returns-in-Err-clause-finds
hinders t c =
    let m = c.args.means.now in
    let old = c.args.store.now.nodes in
    let here = c.loop-cond.store.nodes in
    let given = c.args.given.now in
    let i = c.loop-cond.invariant in
    let f = norm_by m c.args.tries in
    let p = plain_pair c.cond-item.result in
    let rest = map plain_pair (drop (c.loop-cond.cond-index + 1) c.args.conds.now) in
    let read = drop_read c.args.conds.now c.loop-cond.cond-index c.cond-item.result c.loop-cond-test.true c.cond-item.is in
    let same = bounds_later old here given i.worked.grows c.requires.bound in
    let tests = subst (λ bs. TestsCondition f (substitution_of bs) p c.loop-cond.budget c.try_condition.new.budget (Err c.in-Err.fault)) same c.in-Err.ensures.tests in
    cond_hinders f (substitution_of (bounds_in old given)) (map plain_pair c.args.conds.now) p rest c.args.budget.now c.loop-cond.budget c.try_condition.new.budget c.loop-cond.passes.items
    c.in-Err.fault (rw read at i.held) tests

pub fails : goal.try_conditions-returns-in-Ok-None-clause-finds
fails t c =
    let m = c.args.means.now in
    let old = c.args.store.now.nodes in
    let here = c.loop-cond.store.nodes in
    let given = c.args.given.now in
    let i = c.loop-cond.invariant in
    let f = norm_by m c.args.tries in
    let p = plain_pair c.cond-item.result in
    let rest = map plain_pair (drop (c.loop-cond.cond-index + 1) c.args.conds.now) in
    let read = drop_read c.args.conds.now c.loop-cond.cond-index c.cond-item.result c.loop-cond-test.true c.cond-item.is in
    let same = bounds_later old here given i.worked.grows c.requires.bound in
    let tests = subst (λ bs. TestsCondition f (substitution_of bs) p c.loop-cond.budget c.try_condition.new.budget (Ok None)) same (rw c.in-Ok-None.field-0-is at c.in-Ok-None.ensures.tests) in
    holds_not f (substitution_of (bounds_in old given)) (map plain_pair c.args.conds.now) p rest c.args.budget.now c.loop-cond.budget c.try_condition.new.budget c.loop-cond.passes.items
    (rw read at i.held) tests

pub holds_on_to_the_next : goal.try_conditions-loop-cond-preserved
holds_on_to_the_next t c =
    let m = c.args.means.now in
    let old = c.args.store.now.nodes in
    let here = c.loop-cond.store.nodes in
    let given = c.args.given.now in
    let i = c.loop-cond.invariant in
    let f = norm_by m c.args.tries in
    let p = plain_pair c.cond-item.result in
    let rest = map plain_pair (drop (c.loop-cond.cond-index + 1) c.args.conds.now) in
    let read = drop_read c.args.conds.now c.loop-cond.cond-index c.cond-item.result c.loop-cond-test.true c.cond-item.is in
    let same = bounds_later old here given i.worked.grows c.requires.bound in
    let tests = subst (λ bs. TestsCondition f (substitution_of bs) p c.loop-cond.budget c.try_condition.new.budget (Ok (Some c.in-Ok-Some.pass))) same
    (rw c.in-Ok-Some.field-0-is at c.in-Ok-Some.ensures.tests) in
    record {
      worked = worked_on m c.args.store.now c.loop-cond.store c.try_condition.new.store c.args.budget.now c.loop-cond.budget c.try_condition.new.budget i.worked c.try_condition.ensures.worked;
      held = rw c.in_ok-push-in-Ok-Some.ensures.items
          (holds_on f (substitution_of (bounds_in old given)) (map plain_pair c.args.conds.now) p rest c.args.budget.now c.loop-cond.budget c.try_condition.new.budget c.loop-cond.passes.items
          c.in-Ok-Some.pass (rw read at i.held) tests);
    }

pub holds : goal.try_conditions-returns-clause-finds
holds t c =
    let old = c.args.store.now.nodes in
    let i = c.loop-cond.invariant in
    let all : length c.args.conds.now ≤ c.loop-cond.cond-index = omega (arith, c.loop-cond-test.false) in
    let none = drop_of_length-le c.args.conds.now all in
    holds_all (norm_by c.args.means.now c.args.tries) (substitution_of (bounds_in old c.args.given.now)) (map plain_pair c.args.conds.now) c.args.budget.now c.loop-cond.budget
    c.loop-cond.passes.items (rw none at i.held)

-- ---- one condition

pub left_is_ready : goal.try_condition-settle_whole-requires
left_is_ready t c =
    let p = plain_pair c.args.cond.now in
    let σ = substitution_of (bounds_in c.args.store.now.nodes c.args.given.now) in
    let nodes = c.build_sides.new.nodes in
    let left = c.in-Ok.ensures.builds.0 in
    let deep = (within_limits (instance σ p.left) left.1).1 in
    let is = depth_is nodes c.in-Ok.sides.0 (instance σ p.left) left.0 in (
      omega (arith, deep, is),
      (
        ready_grown c.args.means.now c.args.store.now _ c.args.tries c.args.budget.now c.build_sides.ensures.grows refl refl c.requires.ready,
        named_below nodes c.in-Ok.sides.0 (instance σ p.left) left.0,
      ),
    )

pub right_is_ready : goal.try_condition-settle_whole-requires-2
right_is_ready t c =
    let p = plain_pair c.args.cond.now in
    let σ = substitution_of (bounds_in c.args.store.now.nodes c.args.given.now) in
    let later = c.settle_whole.new.store.nodes in
    let w = c.settle_whole.ensures.worked in
    let right = c.in-Ok.ensures.builds.1 in
    let here = named_later c.build_sides.new.nodes later c.in-Ok.sides.1 (instance σ p.right) w.grows right.0 in
    let deep = (within_limits (instance σ p.right) right.1).1 in
    let is = depth_is later c.in-Ok.sides.1 (instance σ p.right) here in (
      omega (arith, deep, is, w.less),
      (
        record { store = w.store; tries = c.requires.ready.tries; fits = omega (arith, w.less, c.requires.ready.fits) },
        named_below later c.in-Ok.sides.1 (instance σ p.right) here,
      ),
    )

pub left_hinders : goal.try_condition-returns-in-Err-settle_whole-clause-tests
left_hinders t c = λ rest.
    let p = plain_pair c.args.cond.now in
    let σ = substitution_of (bounds_in c.args.store.now.nodes c.args.given.now) in
    let sides = c.in-Ok.ensures.builds in
    first_hinders (norm_by c.args.means.now c.args.tries) σ p c.args.budget.now rest sides.0.1 sides.1.1 c.in-Err-settle_whole.fault c.settle_whole.new.budget
    (c.in-Err-settle_whole.ensures.exact (instance σ p.left) sides.0.0)

pub right_hinders : goal.try_condition-returns-in-Err-settle_whole-2-clause-tests
right_hinders t c = λ rest.
    let p = plain_pair c.args.cond.now in
    let σ = substitution_of (bounds_in c.args.store.now.nodes c.args.given.now) in
    let sides = c.in-Ok.ensures.builds in
    let x = c.in-Ok-settle_whole.ensures.exact (instance σ p.left) sides.0.0 in
    second_hinders (norm_by c.args.means.now c.args.tries) σ p c.args.budget.now rest sides.0.1 sides.1.1 x.0 (plain_traces c.in-Ok-settle_whole.first.1.items) c.settle_whole.new.budget x.2
    c.in-Err-settle_whole-2.fault c.settle_whole-2.new.budget
    (c.in-Err-settle_whole-2.ensures.exact (instance σ p.right) (named_later c.build_sides.new.nodes c.settle_whole.new.store.nodes c.in-Ok.sides.1 (instance σ p.right) c.settle_whole.ensures.worked.grows sides.1.0))

pub both_tested : goal.try_condition-returns-in-Ok-settle_whole-2-clause-tests
both_tested t c =
    let p = plain_pair c.args.cond.now in
    let σ = substitution_of (bounds_in c.args.store.now.nodes c.args.given.now) in
    let one = c.settle_whole.new.store.nodes in
    let two = c.settle_whole-2.new.store.nodes in
    let sides = c.in-Ok.ensures.builds in
    let x = c.in-Ok-settle_whole.ensures.exact (instance σ p.left) sides.0.0 in
    let y = c.in-Ok-settle_whole-2.ensures.exact (instance σ p.right) (named_later c.build_sides.new.nodes one c.in-Ok.sides.1 (instance σ p.right) c.settle_whole.ensures.worked.grows sides.1.0) in
    numbers_tested (norm_by c.args.means.now c.args.tries) σ p c.args.budget.now sides.0.1 sides.1.1 two c.in-Ok-settle_whole.first.0 c.in-Ok-settle_whole-2.second.0 x.0 y.0
    c.in-Ok-settle_whole.first.1.items c.in-Ok-settle_whole-2.second.1.items c.settle_whole.new.budget c.settle_whole-2.new.budget c.known.ensures.once
    (named_later one two c.in-Ok-settle_whole.first.0 x.0 c.settle_whole-2.ensures.worked.grows x.1) y.1 x.2 y.2 c.pass_of.result c.pass_of.ensures
