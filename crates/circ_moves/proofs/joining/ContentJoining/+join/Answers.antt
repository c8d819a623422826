use Rattle.std.proofs.Common.{◌==◌, length, [], ◌∷◌, ◌++◌, refl, ap, sym, ◌∙◌, arith}
use Rattle.std.proofs.lemmas.List.{map-append}
use Rattle.circ_term.specs.Tree.{trees_of, depth_of, args_of}
use Rattle.circ_term.proofs.Trees.{list_of-trees_of}
use Rattle.circ_term.proofs.Within.{depth_at}
use Rattle.circ_term.specs.Order.{is_same}
use Rattle.circ_plain_search.specs.Joining.{is_place}
use Rattle.circ_join.specs.Trying.{normaliser_of, beside_alone}
use Rattle.circ_join.specs.Uses.{plain_use}
use Rattle.circ_join.proofs.Joins.{nil_right, not_same, is_same_at, differ_first, differ_second, beside_not, beside_joins}
use Rattle.circ_content_join.specs.Joining.{joined_by_content}
use Rattle.circ_content_join.specs.Moves.{Using}
use Rattle.circ_moves.specs.Plain.{plain_move, plain_moves}
use Rattle.circ_moves.proofs.Joins.{joined_same, joined_used, joined_inside, joined_hindered, inside_no_application, inside_contents, inside_args, inside_others}
use Rattle.circ_moves.proofs.Joins.{going_start, going_on, going_none, going_hindered, going_short, going_end}
use Rattle.circ_moves.proofs.joining.ContentJoining.+join.Goals.{joins_inside-then-op-other_op-via-then-op-other_op, joins_inside-then-op-other_op-via-else-op-other_op+then-sort-other_sort}
use Rattle.circ_moves.proofs.joining.ContentJoining.+join.Goals as goal

-- ---- two terms

pub joins-returns-then-same-clause-exact : goal.joins-returns-then-same-clause-exact
joins-returns-then-same-clause-exact t c = (
  [],
  joined_same (normaliser_of c.args.reducer.now) c.args.self.now.theory.now.signature c.args.self.now.gamma.now c.args.self.now.hyps.now.all c.args.path.now.items c.args.a.now c.args.b.now c.args.budget.now
      (c.same.ensures.0 c.if-same.true),
  sym (nil_right (plain_moves c.args.moves.now.items)),
)

pub joins-returns-in-Err-clause-exact : goal.joins-returns-in-Err-clause-exact
joins-returns-in-Err-clause-exact t c =
    joined_hindered (normaliser_of c.args.reducer.now) c.args.self.now.theory.now.signature c.args.self.now.gamma.now c.args.self.now.hyps.now.all c.args.path.now.items c.args.a.now c.args.b.now c.args.budget.now
    c.first_use.new.budget c.in-Err.fault (not_same c.same.result c.args.a.now c.args.b.now c.same.ensures c.if-same.false) (rw c.as_slice.ensures at c.in-Err.ensures.exact)

pub joins-returns-in_ok-push-in-Ok-Some-clause-exact : goal.joins-returns-in_ok-push-in-Ok-Some-clause-exact
joins-returns-in_ok-push-in-Ok-Some-clause-exact t c =
    let one = c.in-Ok-Some.hypothesis in
    let used = rw (c.in-Ok-Some.field-0-is, c.as_slice.ensures) at c.in-Ok-Some.ensures.exact in (
      Using (plain_use one) ∷ [],
      joined_used (normaliser_of c.args.reducer.now) c.args.self.now.theory.now.signature c.args.self.now.gamma.now c.args.self.now.hyps.now.all c.args.path.now.items c.args.a.now
          c.args.b.now c.args.budget.now c.first_use.new.budget (plain_use one) (not_same c.same.result c.args.a.now c.args.b.now c.same.ensures c.if-same.false) used,
      ap plain_moves c.in_ok-push-in-Ok-Some.ensures.items ∙ map-append plain_move c.args.moves.now.items _,
    )

pub joins-returns-in-Ok-None-clause-exact : goal.joins-returns-in-Ok-None-clause-exact
joins-returns-in-Ok-None-clause-exact t c =
    let f = normaliser_of c.args.reducer.now in
    let sig = c.args.self.now.theory.now.signature in
    let none = rw (c.in-Ok-None.field-0-is, c.as_slice.ensures) at c.in-Ok-None.ensures.exact in
    let same = joined_inside f sig c.args.self.now.gamma.now c.args.self.now.hyps.now.all c.args.path.now.items c.args.a.now c.args.b.now c.args.budget.now c.first_use.new.budget
    (not_same c.same.result c.args.a.now c.args.b.now c.same.ensures c.if-same.false) none in
    rw same (rw c.first_use.ensures.same at c.joins_inside.ensures.exact)

-- ---- inside two terms

pub joins_inside-returns-in-Application-Variable-clause-exact : goal.joins_inside-returns-in-Application-Variable-clause-exact
joins_inside-returns-in-Application-Variable-clause-exact t c =
    let x = c.in-Application-Variable in
    inside_no_application (normaliser_of c.args.reducer.now) c.args.self.now.theory.now.signature c.args.self.now.gamma.now c.args.self.now.hyps.now.all c.args.path.now.items c.args.a.now c.args.b.now _ _
    _ _ c.args.budget.now _ x.ensures.value x.ensures'.value

pub joins_inside-all_join-requires : goal.joins_inside-all_join-requires
joins_inside-all_join-requires t c =
    let value = c.in-Application-Application.ensures.value in
    let depth = ap depth_of value in
    let there = ap (λ u. length (args_of u)) value in
    let same = ap length (list_of-trees_of c.in-Application-Application.args.now) in
    (omega (arith, depth), omega (arith, there, same, c.kind.ensures.few))

pub joins_inside-returns-then-op-other_op-clause-exact : goal.joins_inside-returns-then-op-other_op-clause-exact
joins_inside-returns-then-op-other_op-clause-exact t c =
    let x = c.in-Application-Application in
    inside_others (normaliser_of c.args.reducer.now) c.args.self.now.theory.now.signature c.args.self.now.gamma.now c.args.self.now.hyps.now.all c.args.path.now.items c.args.a.now c.args.b.now x.op x.sort
    x.other_op x.other_sort c.args.budget.now (trees_of x.args.now) (trees_of x.others.now) x.ensures.value x.ensures'.value
    (elim c.then-op-other_op.branch [
      | joins_inside-then-op-other_op-via-then-op-other_op w ↦ differ_first x.op x.other_op (x.sort == x.other_sort) w.if-op-other_op.true
      | joins_inside-then-op-other_op-via-else-op-other_op+then-sort-other_sort w ↦ differ_second (x.op == x.other_op) x.sort x.other_sort w.if-sort-other_sort.true
    ])

pub joins_inside-returns-in-Ok-true-clause-exact : goal.joins_inside-returns-in-Ok-true-clause-exact
joins_inside-returns-in-Ok-true-clause-exact t c =
    let x = c.in-Application-Application in
    let found = rw c.in-Ok-true.field-0-test at c.in-Ok-true.ensures.exact in (
      found.0,
      inside_contents (normaliser_of c.args.reducer.now) c.args.self.now.theory.now.signature c.args.self.now.gamma.now c.args.self.now.hyps.now.all c.args.path.now.items c.args.a.now
          c.args.b.now x.op x.sort x.other_op x.other_sort c.args.budget.now c.contents_join.new.budget (trees_of x.args.now) (trees_of x.others.now) found.0 x.ensures.value
          x.ensures'.value c.if-op-other_op.false c.if-sort-other_sort.false found.1,
      found.2,
    )

pub joins_inside-returns-in-Ok-false-clause-exact : goal.joins_inside-returns-in-Ok-false-clause-exact
joins_inside-returns-in-Ok-false-clause-exact t c =
    let x = c.in-Application-Application in
    let none = rw c.in-Ok-false.field-0-test at c.in-Ok-false.ensures.exact in
    let kept = rw c.in-Ok-false.field-0-test at c.in-Ok-false.ensures.kept in
    let same =
    inside_args (normaliser_of c.args.reducer.now) c.args.self.now.theory.now.signature c.args.self.now.gamma.now c.args.self.now.hyps.now.all c.args.path.now.items c.args.a.now
    c.args.b.now x.op x.sort x.other_op x.other_sort c.args.budget.now c.contents_join.new.budget (trees_of x.args.now) (trees_of x.others.now) x.ensures.value x.ensures'.value
    c.if-op-other_op.false c.if-sort-other_sort.false none in
    rw same (rw (kept, c.contents_join.ensures.same, c.in-Ok-false.ensures.path) at c.all_join.ensures.exact)

-- ---- arguments

pub all_join-loop-i-init : goal.all_join-loop-i-init
all_join-loop-i-init t c = record {
  path = refl;
  less = omega arith;
  same = refl;
  going = going_start (normaliser_of c.args.reducer.now) c.args.self.now.theory.now.signature c.args.self.now.gamma.now c.args.self.now.hyps.now.all c.args.op c.args.path.now.items c.args.args.now c.args.others.now
      (plain_moves c.args.moves.now.items) c.args.budget.now;
}

pub all_join-returns-then-i-others-clause-exact : goal.all_join-returns-then-i-others-clause-exact
all_join-returns-then-i-others-clause-exact t c =
    going_short (normaliser_of c.args.reducer.now) c.args.self.now.theory.now.signature c.args.self.now.gamma.now c.args.self.now.hyps.now.all c.args.op c.args.path.now.items c.args.args.now c.args.others.now
    (plain_moves c.args.moves.now.items) (plain_moves c.loop-i.moves.items) c.args.budget.now c.loop-i.i c.loop-i.budget c.loop-i.invariant.going c.loop-i-test.true c.if-i-others.true

pub all_join-joins_at-requires : goal.all_join-joins_at-requires
all_join-joins_at-requires t c =
    omega (arith, depth_at c.args.args.now c.loop-i.i c.index-args-i.result c.loop-i-test.true c.index-args-i.is)

pub all_join-returns-in-Err-clause-exact : goal.all_join-returns-in-Err-clause-exact
all_join-returns-in-Err-clause-exact t c =
    let i = c.loop-i.invariant in
    going_hindered (normaliser_of c.args.reducer.now) c.args.self.now.theory.now.signature c.args.self.now.gamma.now c.args.self.now.hyps.now.all c.args.op c.args.path.now.items c.args.args.now c.args.others.now
    (plain_moves c.args.moves.now.items) (plain_moves c.loop-i.moves.items) c.args.budget.now c.loop-i.i c.loop-i.budget c.joins_at.new.budget c.index-args-i.result c.index-others-i.result
    c.in-Err.fault i.going c.loop-i-test.true (omega (arith, c.if-i-others.false)) c.index-args-i.is c.index-others-i.is (rw (i.same, i.path) at c.in-Err.ensures.exact)

pub all_join-returns-then-not-joins-clause-exact : goal.all_join-returns-then-not-joins-clause-exact
all_join-returns-then-not-joins-clause-exact t c =
    let i = c.loop-i.invariant in
    going_none (normaliser_of c.args.reducer.now) c.args.self.now.theory.now.signature c.args.self.now.gamma.now c.args.self.now.hyps.now.all c.args.op c.args.path.now.items c.args.args.now c.args.others.now
    (plain_moves c.args.moves.now.items) (plain_moves c.loop-i.moves.items) c.args.budget.now c.loop-i.i c.loop-i.budget c.joins_at.new.budget c.index-args-i.result c.index-others-i.result
    i.going c.loop-i-test.true (omega (arith, c.if-i-others.false)) c.index-args-i.is c.index-others-i.is (rw (c.if-not-joins.true, i.same, i.path) at c.in-Ok.ensures.exact)

pub all_join-loop-i-preserved : goal.all_join-loop-i-preserved
all_join-loop-i-preserved t c =
    let i = c.loop-i.invariant in
    record {
      path = c.in-Ok.ensures.path ∙ i.path;
      less = omega (arith, i.less, c.joins_at.ensures.less);
      same = c.joins_at.ensures.same ∙ i.same;
      going = going_on (normaliser_of c.args.reducer.now) c.args.self.now.theory.now.signature c.args.self.now.gamma.now c.args.self.now.hyps.now.all c.args.op c.args.path.now.items c.args.args.now c.args.others.now
          (plain_moves c.args.moves.now.items) (plain_moves c.loop-i.moves.items) (plain_moves c.joins_at.new.moves.items) c.args.budget.now c.loop-i.i c.loop-i.budget c.joins_at.new.budget
          c.index-args-i.result c.index-others-i.result i.going c.loop-i-test.true (omega (arith, c.if-i-others.false)) c.index-args-i.is c.index-others-i.is
          (rw (c.if-not-joins.false, i.same, i.path) at c.in-Ok.ensures.exact);
    }

pub all_join-returns-clause-exact : goal.all_join-returns-clause-exact
all_join-returns-clause-exact t c =
    let i = c.loop-i.invariant in
    going_end (normaliser_of c.args.reducer.now) c.args.self.now.theory.now.signature c.args.self.now.gamma.now c.args.self.now.hyps.now.all c.args.op c.args.path.now.items c.args.args.now c.args.others.now
    (plain_moves c.args.moves.now.items) (plain_moves c.loop-i.moves.items) c.args.budget.now c.loop-i.i c.loop-i.budget _ i.going (omega (arith, c.loop-i-test.false)) refl

-- ---- one argument

pub joins_at-returns-then-same-clause-exact : goal.joins_at-returns-then-same-clause-exact
joins_at-returns-then-same-clause-exact t c = (
  [],
  ap (λ v. beside_alone v (is_place c.args.self.now.gamma.now c.args.op c.args.i)
      (joined_by_content (normaliser_of c.args.reducer.now) c.args.self.now.theory.now.signature c.args.self.now.gamma.now c.args.self.now.hyps.now.all (c.args.path.now.items ++ c.args.i ∷ []) c.args.arg.now c.args.other.now)
      c.args.budget.now) (is_same_at c.args.arg.now c.args.other.now (c.same.ensures.0 c.if-same.true)),
  sym (nil_right (plain_moves c.args.moves.now.items)),
)

pub joins_at-returns-then-not-has_place-clause-exact : goal.joins_at-returns-then-not-has_place-clause-exact
joins_at-returns-then-not-has_place-clause-exact t c =
    beside_not (is_same c.args.arg.now c.args.other.now) (is_place c.args.self.now.gamma.now c.args.op c.args.i)
    (joined_by_content (normaliser_of c.args.reducer.now) c.args.self.now.theory.now.signature c.args.self.now.gamma.now c.args.self.now.hyps.now.all (c.args.path.now.items ++ c.args.i ∷ []) c.args.arg.now c.args.other.now)
    c.args.budget.now (not_same c.same.result c.args.arg.now c.args.other.now c.same.ensures c.if-same.false) (sym c.has_place.ensures ∙ c.if-not-has_place.true)

pub joins_at-returns-clause-exact : goal.joins_at-returns-clause-exact
joins_at-returns-clause-exact t c =
    let same =
    beside_joins (is_same c.args.arg.now c.args.other.now) (is_place c.args.self.now.gamma.now c.args.op c.args.i)
    (joined_by_content (normaliser_of c.args.reducer.now) c.args.self.now.theory.now.signature c.args.self.now.gamma.now c.args.self.now.hyps.now.all (c.args.path.now.items ++ c.args.i ∷ []) c.args.arg.now c.args.other.now)
    c.args.budget.now (not_same c.same.result c.args.arg.now c.args.other.now c.same.ensures c.if-same.false) (sym c.has_place.ensures ∙ c.if-not-has_place.false) in
    rw same (rw c.in_ok-push.ensures.ok at c.joins-joins.ensures.exact)
