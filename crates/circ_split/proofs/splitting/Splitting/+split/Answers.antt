use Rattle.std.proofs.Common.{◌+◌, ◌-◌, ◌∷◌, [], List, Ok, ap, sym, subst, ◌∙◌, arith, drop, map, length, length-append}
use Rattle.circ_proof.specs.Plain.{Split_why}
use Rattle.circ_plain_search.specs.Joining.{and_then}
use Rattle.circ_plain_search.specs.Search.{Sides, sides_with, reason_with, case_reason, constants_of}
use Rattle.circ_conditional_search.specs.Search.{normal_sides_trying, each_case_trying, split_cases_trying, open_cases_trying}
use Rattle.circ_term.specs.Tree.{Tree}
use Rattle.circ_theory.specs.Pairs.{plain_pair}
use Rattle.circ_proof.specs.Plain.{plain_chain}
use Rattle.circ_proof.proofs.Rows.{split_plain}
use Rattle.circ_proof.specs.declared.links.Why.{Why}
use Rattle.circ_split.proofs.Splits.{with_case, Rest, stops_then, stops_same, rest_next, rest_stops, rest_end, split_open, case_given, case_ends, case_splits}
use Rattle.circ_split.proofs.splitting.Splitting.+split.Goals as goal

pub case_reason-returns-in-Err-clause-exact : goal.case_reason-returns-in-Err-clause-exact
case_reason-returns-in-Err-clause-exact t c =
    let n = rw (c.in-Err.is, c.as_slice.ensures.value) at c.case_sides.ensures.exact in
    stops_then c.in-Err.stop
    (normal_sides_trying c.args.self.now.theory.now c.args.reducer.now.rules (map plain_pair c.args.assumptions.now.items) c.args.left.now c.args.right.now c.args.budget.now)
    (case_reason (split_cases_trying c.args.self.now.theory.now c.args.reducer.now.rules c.args.room) (map plain_pair c.args.assumptions.now.items))
    n

pub case_reason-returns-in-Ok-clause-exact : goal.case_reason-returns-in-Ok-clause-exact
case_reason-returns-in-Ok-clause-exact t c =
    let n = rw (c.in-Ok.is, c.as_slice.ensures.value) at c.case_sides.ensures.exact in
    case_given
    (normal_sides_trying c.args.self.now.theory.now c.args.reducer.now.rules (map plain_pair c.args.assumptions.now.items) c.args.left.now c.args.right.now c.args.budget.now)
    (case_reason (split_cases_trying c.args.self.now.theory.now c.args.reducer.now.rules c.args.room) (map plain_pair c.args.assumptions.now.items))
    (sides_with c.in-Ok.sides.left c.in-Ok.sides.right (plain_chain c.in-Ok.sides.chain) c.case_sides.new.budget) c.sides_reason.new.budget c.sides_reason.result n
    (rw c.in-Ok.ensures.rules at c.sides_reason.ensures.exact)

pub sides_reason-returns-then-same-clause-exact : goal.sides_reason-returns-then-same-clause-exact
sides_reason-returns-then-same-clause-exact t c =
    case_ends (split_cases_trying c.args.self.now.theory.now c.args.reducer.now.rules c.args.room) (map plain_pair c.args.assumptions.now.items)
    (sides_with c.args.sides.left c.args.sides.right (plain_chain c.args.sides.chain) c.args.budget.now) (c.same.ensures.0 c.if-same.true)

pub sides_reason-returns-in-Err-clause-exact : goal.sides_reason-returns-in-Err-clause-exact
sides_reason-returns-in-Err-clause-exact t c =
    let sides : Sides = sides_with c.args.sides.left c.args.sides.right (plain_chain c.args.sides.chain) c.args.budget.now in
    let e = case_splits (split_cases_trying c.args.self.now.theory.now c.args.reducer.now.rules c.args.room) (map plain_pair c.args.assumptions.now.items) sides
    (λ q. let z = c.same.ensures.1 q in absurd (let x = sym z ∙ c.if-same.false in cc)) in
    stops_same c.in-Err.stop _ _ e (stops_then c.in-Err.stop _ _ c.in-Err.ensures.exact)

pub sides_reason-returns-in-Ok-clause-exact : goal.sides_reason-returns-in-Ok-clause-exact
sides_reason-returns-in-Ok-clause-exact t c =
    let sides : Sides = sides_with c.args.sides.left c.args.sides.right (plain_chain c.args.sides.chain) c.args.budget.now in
    let e = case_splits (split_cases_trying c.args.self.now.theory.now c.args.reducer.now.rules c.args.room) (map plain_pair c.args.assumptions.now.items) sides
    (λ q. let z = c.same.ensures.1 q in absurd (let x = sym z ∙ c.if-same.false in cc)) in
    e ∙ ap (λ x. and_then x (λ b. Ok (reason_with (Split_why (plain_chain c.args.sides.chain) b.term b.whys) b.budget))) c.in-Ok.ensures.exact
    ∙ ap (λ x. Ok (reason_with x c.split_with.new.budget)) (sym (split_plain c.args.sides.chain c.in-Ok.cases.term c.in-Ok.cases.whys))

pub each_case-returns-in-Err-clause-exact : goal.each_case-returns-in-Err-clause-exact
each_case-returns-in-Err-clause-exact t c =
    let whole = each_case_trying c.args.self.now.theory.now c.args.reducer.now.rules (split_cases_trying c.args.self.now.theory.now c.args.reducer.now.rules c.args.room) (map plain_pair c.args.assumptions.now.items)
    c.args.split.now.term.now c.args.split.now.left.now c.args.split.now.right.now c.constants_of-constants.result.now c.args.budget.now in
    let cs = c.constants_of-constants.ensures ∙ ap (constants_of c.args.self.now.theory.now) c.sort.ensures in
    let h = rw (c.loop-i.invariant.same, c.loop-i.invariant.rules) at c.in-Err.ensures.exact in
    rw (← cs) (rest_stops c.args.self.now.theory.now c.args.reducer.now.rules c.args.room (map plain_pair c.args.assumptions.now.items) c.args.split.now.term.now c.args.split.now.left.now c.args.split.now.right.now
    c.constants_of-constants.result.now c.loop-i.i c.loop-i.budget whole c.loop-i.whys.items c.in-Err.stop c.loop-i-test.true c.loop-i.invariant.rest h)

pub each_case-loop-i-preserved : goal.each_case-loop-i-preserved
each_case-loop-i-preserved t c =
    let h = rw (c.loop-i.invariant.same, c.loop-i.invariant.rules) at c.in-Ok.ensures.exact in
    let whole = each_case_trying c.args.self.now.theory.now c.args.reducer.now.rules (split_cases_trying c.args.self.now.theory.now c.args.reducer.now.rules c.args.room) (map plain_pair c.args.assumptions.now.items)
    c.args.split.now.term.now c.args.split.now.left.now c.args.split.now.right.now c.constants_of-constants.result.now c.args.budget.now in
    let rest = each_case_trying c.args.self.now.theory.now c.args.reducer.now.rules (split_cases_trying c.args.self.now.theory.now c.args.reducer.now.rules c.args.room) (map plain_pair c.args.assumptions.now.items)
    c.args.split.now.term.now c.args.split.now.left.now c.args.split.now.right.now (drop (c.loop-i.i + 1) c.constants_of-constants.result.now) c.one_case.new.budget in
    let P : List (Why Tree) → Type 0 = λ ws. Rest whole rest ws in
    record {
      theory = c.in-Ok.ensures.theory ∙ c.loop-i.invariant.theory;
      rules = c.in-Ok.ensures.rules ∙ c.loop-i.invariant.rules;
      less = omega (arith, c.in-Ok.ensures.less, c.loop-i.invariant.less);
      same = c.in-Ok.ensures.same ∙ c.loop-i.invariant.same;
      rest = subst P (sym c.in_ok-push-in-Ok.ensures.items)
          (rest_next c.args.self.now.theory.now c.args.reducer.now.rules c.args.room (map plain_pair c.args.assumptions.now.items) c.args.split.now.term.now c.args.split.now.left.now c.args.split.now.right.now
          c.constants_of-constants.result.now c.loop-i.i c.loop-i.budget c.one_case.new.budget c.in-Ok.why whole c.loop-i.whys.items c.loop-i-test.true c.loop-i.invariant.rest h);
    }

pub each_case-returns-clause-exact : goal.each_case-returns-clause-exact
each_case-returns-clause-exact t c =
    let whole = each_case_trying c.args.self.now.theory.now c.args.reducer.now.rules (split_cases_trying c.args.self.now.theory.now c.args.reducer.now.rules c.args.room) (map plain_pair c.args.assumptions.now.items)
    c.args.split.now.term.now c.args.split.now.left.now c.args.split.now.right.now c.constants_of-constants.result.now c.args.budget.now in
    let cs = c.constants_of-constants.ensures ∙ ap (constants_of c.args.self.now.theory.now) c.sort.ensures in
    rw (← cs, c.in_ok-term.ensures.same) (rest_end c.args.self.now.theory.now c.args.reducer.now.rules c.args.room (map plain_pair c.args.assumptions.now.items) c.args.split.now.term.now c.args.split.now.left.now c.args.split.now.right.now
    c.constants_of-constants.result.now c.loop-i.i c.loop-i.budget whole c.loop-i.whys.items (omega (arith, c.loop-i-test.false)) c.loop-i.invariant.rest)

pub one_case-returns-in-Err-clause-exact : goal.one_case-returns-in-Err-clause-exact
one_case-returns-in-Err-clause-exact t c =
    let a = with_case c.args.assumptions.now.items c.in_ok-case.case _ _ c.in_ok-push.ensures.items c.in_ok-case.ensures in
    rw a at c.in-Err.ensures.exact

pub one_case-returns-in-Ok-clause-exact : goal.one_case-returns-in-Ok-clause-exact
one_case-returns-in-Ok-clause-exact t c =
    let a = with_case c.args.assumptions.now.items c.in_ok-case.case _ _ c.in_ok-push.ensures.items c.in_ok-case.ensures in
    rw a at c.in-Ok.ensures.exact

pub split_with-returns-then-room-eq0-clause-exact : goal.split_with-returns-then-room-eq0-clause-exact
split_with-returns-then-room-eq0-clause-exact t c = rw c.if-room-eq0.true (rw c.as_slice.ensures.value at (c.stuck.ensures c.args.budget.now))

pub split_with-returns-in-None-clause-exact : goal.split_with-returns-in-None-clause-exact
split_with-returns-in-None-clause-exact t c =
    let o = split_open c.args.self.now.theory.now c.args.reducer.now.rules c.args.room (map plain_pair c.args.assumptions.now.items) c.args.left.now c.args.right.now c.args.budget.now c.if-room-eq0.false in
    let none = rw c.in-None.is at c.first_open_of.ensures in
    let e = o ∙ ap (λ x. open_cases_trying c.args.self.now.theory.now c.args.reducer.now.rules (split_cases_trying c.args.self.now.theory.now c.args.reducer.now.rules (c.args.room - 1)) x
    (map plain_pair c.args.assumptions.now.items) c.args.left.now c.args.right.now c.args.budget.now) (sym none) in
    rw e (rw c.as_slice-in-None.ensures.value at (c.stuck-in-None.ensures c.args.budget.now))

pub split_with-returns-in-Some-clause-exact : goal.split_with-returns-in-Some-clause-exact
split_with-returns-in-Some-clause-exact t c =
    let o = split_open c.args.self.now.theory.now c.args.reducer.now.rules c.args.room (map plain_pair c.args.assumptions.now.items) c.args.left.now c.args.right.now c.args.budget.now c.if-room-eq0.false in
    let some = rw c.in-Some.is at c.first_open_of.ensures in
    let e = o ∙ ap (λ x. open_cases_trying c.args.self.now.theory.now c.args.reducer.now.rules (split_cases_trying c.args.self.now.theory.now c.args.reducer.now.rules (c.args.room - 1)) x
    (map plain_pair c.args.assumptions.now.items) c.args.left.now c.args.right.now c.args.budget.now) (sym some) in
    rw e c.each_case.ensures.exact

-- ---- what the calls require

pub split_with-each_case-requires : goal.split_with-each_case-requires
split_with-each_case-requires t c = (omega arith, (c.requires.theory, omega (arith, c.requires.few)))

pub each_case-one_case-requires : goal.each_case-one_case-requires
each_case-one_case-requires t c =
    (omega arith, (c.loop-i.invariant.theory ∙ c.requires.theory, omega (arith, c.requires.few, ap length c.loop-i.invariant.same)))

pub one_case-case_reason-requires : goal.one_case-case_reason-requires
one_case-case_reason-requires t c =
    let pushed = ap length c.in_ok-push.ensures.items in
    (omega arith, (c.requires.theory, omega (arith, c.requires.few, pushed, length-append c.args.assumptions.now.items (c.in_ok-case.case ∷ []))))

pub case_reason-sides_reason-requires : goal.case_reason-sides_reason-requires
case_reason-sides_reason-requires t c = (omega arith, (c.in-Ok.ensures.theory ∙ c.requires.theory, c.requires.few))

pub sides_reason-split_with-requires : goal.sides_reason-split_with-requires
sides_reason-split_with-requires t c = (omega arith, (c.requires.theory, c.requires.few))

-- ---- the reducer and the budget, from one call to the next

pub case_reason-returns-in-Ok-clause-less : goal.case_reason-returns-in-Ok-clause-less
case_reason-returns-in-Ok-clause-less t c = omega (arith, c.in-Ok.ensures.less, c.sides_reason.ensures.less)

pub case_reason-returns-in-Ok-clause-theory : goal.case_reason-returns-in-Ok-clause-theory
case_reason-returns-in-Ok-clause-theory t c = c.sides_reason.ensures.theory ∙ c.in-Ok.ensures.theory

pub case_reason-returns-in-Ok-clause-rules : goal.case_reason-returns-in-Ok-clause-rules
case_reason-returns-in-Ok-clause-rules t c = c.sides_reason.ensures.rules ∙ c.in-Ok.ensures.rules

pub each_case-returns-in-Err-clause-less : goal.each_case-returns-in-Err-clause-less
each_case-returns-in-Err-clause-less t c = omega (arith, c.in-Err.ensures.less, c.loop-i.invariant.less)

pub each_case-returns-in-Err-clause-theory : goal.each_case-returns-in-Err-clause-theory
each_case-returns-in-Err-clause-theory t c = c.in-Err.ensures.theory ∙ c.loop-i.invariant.theory

pub each_case-returns-in-Err-clause-rules : goal.each_case-returns-in-Err-clause-rules
each_case-returns-in-Err-clause-rules t c = c.in-Err.ensures.rules ∙ c.loop-i.invariant.rules
