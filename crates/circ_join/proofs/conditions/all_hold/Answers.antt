use Rattle.std.proofs.Common.{◌≤◌, ◌+◌, ◌∙◌, drop, map, length, arith}
use Rattle.std.proofs.lemmas.List.{drop_all}
use Rattle.circ_term.specs.Subst.{substitution_of}
use Rattle.circ_term.proofs.Within.{drop_read}
use Rattle.circ_theory.specs.Pairs.{plain_pair}
use Rattle.circ_tries.proofs.Holding.{cond_hinders}
use Rattle.circ_tries.proofs.Tried.{holds_on, holds_not, holds_all}
use Rattle.circ_join.specs.Trying.{normaliser_of}
use Rattle.circ_join.proofs.conditions.all_hold.Goals as goal

pub returns-in-Err-clause-exact : goal.returns-in-Err-clause-exact
returns-in-Err-clause-exact c =
    let i = c.loop-cond.invariant in
    let rest = map plain_pair (drop (c.loop-cond.cond-index + 1) c.args.conds.now) in
    let read = drop_read c.args.conds.now c.loop-cond.cond-index c.cond-item.result c.loop-cond-test.true c.cond-item.is in
    cond_hinders (normaliser_of c.args.reducer.now) (substitution_of c.args.subst.now) (map plain_pair c.args.conds.now) (plain_pair c.cond-item.result) rest c.args.budget.now
    c.loop-cond.budget c.holds.new.budget c.loop-cond.passes.items c.in-Err.fault (rw read at i.held) (rw i.same at c.in-Err.ensures.exact)

pub returns-in-Ok-None-clause-exact : goal.returns-in-Ok-None-clause-exact
returns-in-Ok-None-clause-exact c =
    let i = c.loop-cond.invariant in
    let rest = map plain_pair (drop (c.loop-cond.cond-index + 1) c.args.conds.now) in
    let read = drop_read c.args.conds.now c.loop-cond.cond-index c.cond-item.result c.loop-cond-test.true c.cond-item.is in
    holds_not (normaliser_of c.args.reducer.now) (substitution_of c.args.subst.now) (map plain_pair c.args.conds.now) (plain_pair c.cond-item.result) rest c.args.budget.now
    c.loop-cond.budget c.holds.new.budget c.loop-cond.passes.items (rw read at i.held) (rw (c.in-Ok-None.field-0-is, i.same) at c.in-Ok-None.ensures.exact)

pub loop-cond-preserved : goal.loop-cond-preserved
loop-cond-preserved c =
    let i = c.loop-cond.invariant in
    let rest = map plain_pair (drop (c.loop-cond.cond-index + 1) c.args.conds.now) in
    let read = drop_read c.args.conds.now c.loop-cond.cond-index c.cond-item.result c.loop-cond-test.true c.cond-item.is in
    record {
      less = omega (arith, i.less, c.holds.ensures.less);
      same = c.holds.ensures.same ∙ i.same;
      held = rw c.in_ok-push-in-Ok-Some.ensures.items
          (holds_on (normaliser_of c.args.reducer.now) (substitution_of c.args.subst.now) (map plain_pair c.args.conds.now) (plain_pair c.cond-item.result) rest
          c.args.budget.now c.loop-cond.budget c.holds.new.budget c.loop-cond.passes.items c.in-Ok-Some.pass (rw read at i.held)
          (rw (c.in-Ok-Some.field-0-is, i.same) at c.in-Ok-Some.ensures.exact));
    }

pub returns-clause-exact : goal.returns-clause-exact
returns-clause-exact c =
    let i = c.loop-cond.invariant in
    let all : length c.args.conds.now ≤ c.loop-cond.cond-index = omega (arith, c.loop-cond-test.false) in
    let none = drop_all c.loop-cond.cond-index c.args.conds.now all in
    holds_all (normaliser_of c.args.reducer.now) (substitution_of c.args.subst.now) (map plain_pair c.args.conds.now) c.args.budget.now c.loop-cond.budget
    c.loop-cond.passes.items (rw none at i.held)
