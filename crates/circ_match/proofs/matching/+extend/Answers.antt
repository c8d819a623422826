use Rattle.std.proofs.Common.{◌≡◌, [], ◌+◌, ◌||◌, drop, arith, refl, sym, ◌∙◌, is_some}
use Rattle.std.proofs.lemmas.List.{drop_all}
use Rattle.circ_term.specs.Tree.{trees_of}
use Rattle.circ_term.specs.Subst.{found}
use Rattle.circ_term.proofs.Within.{depth_at, drop_read}
use Rattle.circ_match.specs.Matcher.{has_variable, have_variable}
use Rattle.circ_match.specs.Extending.{MakeAll, Agrees}
use Rattle.circ_match.proofs.Patterns.{extends_ground, binds_ground, extends_application, same_length, makes_next, binds_next}
use Rattle.circ_match.proofs.matching.+extend.Goals as goal

pub extend-returns-then-is_ground-clause-makes : goal.extend-returns-then-is_ground-clause-makes
extend-returns-then-is_ground-clause-makes t c =
    extends_ground c.args.subst.now c.args.pattern.now c.args.term.now c.same.result (sym c.is_ground.ensures ∙ c.if-is_ground.true) c.same.ensures

pub extend-returns-then-is_ground-clause-binds : goal.extend-returns-then-is_ground-clause-binds
extend-returns-then-is_ground-clause-binds t c =
    binds_ground c.args.subst.now c.args.pattern.now c.same.result (sym c.is_ground.ensures ∙ c.if-is_ground.true)

pub extend-returns-else-sort-term_sort-clause-makes : goal.extend-returns-else-sort-term_sort-clause-makes
extend-returns-else-sort-term_sort-clause-makes t c =
    extends_application c.extend_all.result c.args.subst.now c.extend_all.new.subst c.args.pattern.now c.args.term.now
    c.in-Application-Application.op c.in-Application-Application.sort c.in-Application-Application.term_op c.in-Application-Application.term_sort
    (trees_of c.in-Application-Application.args.now) (trees_of c.in-Application-Application.term_args.now)
    c.in-Application-Application.ensures.value c.in-Application-Application.ensures'.value (cc) (cc) c.extend_all.ensures.makes

pub extend_all-returns-then-patterns-terms-clause-makes : goal.extend_all-returns-then-patterns-terms-clause-makes
extend_all-returns-then-patterns-terms-clause-makes t c = λ τ k a e. absurd (omega (arith, same_length τ c.args.patterns.now c.args.terms.now e))

pub extend_all-extend-requires : goal.extend_all-extend-requires
extend_all-extend-requires t c = (omega (arith, depth_at c.args.patterns.now c.loop-i.i c.index-patterns-i.result (omega arith) c.index-patterns-i.is), tt)

pub extend_all-loop-i-preserved : goal.extend_all-loop-i-preserved
extend_all-loop-i-preserved t c =
    let ps = drop_read c.args.patterns.now c.loop-i.i c.index-patterns-i.result (omega arith) c.index-patterns-i.is in
    let ts = drop_read c.args.terms.now c.loop-i.i c.index-terms-i.result (omega arith) c.index-terms-i.is in
    let one = rw c.if-not-branch.false at c.in_ok-extend.ensures.makes in
    let binds = rw c.if-not-branch.false at c.in_ok-extend.ensures.binds in
    record {
      makes = λ τ k.
          makes_next τ (Agrees τ c.loop-i.subst) (Agrees τ c.extend.new.subst)
          (Agrees τ c.args.subst.now × MakeAll (trees_of c.args.patterns.now) (trees_of c.args.terms.now) τ)
          c.index-patterns-i.result c.index-terms-i.result
          (trees_of (drop (c.loop-i.i + 1) c.args.patterns.now)) (trees_of (drop (c.loop-i.i + 1) c.args.terms.now))
          (one τ k) (rw (ps, ts) at (c.loop-i.invariant.makes τ k));
      binds = λ n s.
          binds_next (is_some (found c.loop-i.subst n s)) (is_some (found c.extend.new.subst n s)) (has_variable c.index-patterns-i.result n s)
          (have_variable (trees_of (drop (c.loop-i.i + 1) c.args.patterns.now)) n s)
          (is_some (found c.args.subst.now n s) || have_variable (trees_of c.args.patterns.now) n s)
          (binds n s) (rw ps at (c.loop-i.invariant.binds n s));
    }

pub extend_all-returns-clause-makes : goal.extend_all-returns-clause-makes
extend_all-returns-clause-makes t c = λ τ k.
    let ps : drop c.loop-i.i c.args.patterns.now ≡ [] = drop_all c.loop-i.i c.args.patterns.now (omega arith) in
    let ts : drop c.loop-i.i c.args.terms.now ≡ [] = drop_all c.loop-i.i c.args.terms.now (omega arith) in
    let all = rw (ps, ts) at (c.loop-i.invariant.makes τ k) in
    ((λ a. all.0 (a, refl)), (λ s. (all.1 s).0))
