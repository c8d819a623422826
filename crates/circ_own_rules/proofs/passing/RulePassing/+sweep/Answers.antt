use Rattle.std.proofs.Common.{◌++◌, ◌∷◌, [], length, ap, sym, ◌∙◌, arith}
use Rattle.circ_term.specs.Tree.{depth_of, args_of, trees_of}
use Rattle.circ_term.proofs.Trees.{list_of-trees_of}
use Rattle.circ_term.proofs.Within.{depth_at}
use Rattle.circ_tries.proofs.Faulting.{hinders_same}
use Rattle.circ_join.specs.Sweeping.{plain_swept, swept_place}
use Rattle.circ_join.specs.Trying.{normaliser_of}
use Rattle.circ_attempt.specs.Passes.{swept_taking}
use Rattle.circ_attempt.specs.Rules.{first_rule_use}
use Rattle.circ_own_rules.specs.Using.{plain_due}
use Rattle.circ_own_rules.proofs.Sweeps.{swept_used, swept_variable, swept_all, swept_hindered, row_at, row_on, row_hindered, row_end}
use Rattle.circ_own_rules.proofs.passing.RulePassing.+sweep.Goals as goal

-- ---- a term

pub sweep-returns-in-Err-clause-exact : goal.sweep-returns-in-Err-clause-exact
sweep-returns-in-Err-clause-exact t c =
    let first = first_rule_use (normaliser_of c.args.reducer.now) (c.args.self.now.lemmas.now ++ c.args.self.now.own.now) in
    swept_hindered first c.args.self.now.gamma.now c.args.path.now.items c.args.term.now (plain_swept c.args.swept.now)
    c.args.budget.now c.first_use.new.budget c.in-Err.fault (rw c.as_slice.ensures at c.in-Err.ensures.exact)

pub sweep-returns-in-Ok-Some-clause-exact : goal.sweep-returns-in-Ok-Some-clause-exact
sweep-returns-in-Ok-Some-clause-exact t c =
    let first = first_rule_use (normaliser_of c.args.reducer.now) (c.args.self.now.lemmas.now ++ c.args.self.now.own.now) in
    let used = rw (c.in-Ok-Some.field-0-is, c.as_slice.ensures) at c.in-Ok-Some.ensures.exact in
    let same = swept_used first c.args.self.now.gamma.now c.args.path.now.items c.args.term.now (plain_swept c.args.swept.now)
    c.args.budget.now c.first_use.new.budget (plain_due c.in-Ok-Some.due) used in
    rw same c.put.ensures.exact

pub sweep-returns-in-Variable-clause-exact : goal.sweep-returns-in-Variable-clause-exact
sweep-returns-in-Variable-clause-exact t c =
    let first = first_rule_use (normaliser_of c.args.reducer.now) (c.args.self.now.lemmas.now ++ c.args.self.now.own.now) in
    let none = rw (c.in-Ok-None.field-0-is, c.as_slice.ensures) at c.in-Ok-None.ensures.exact in
    swept_variable first c.args.self.now.gamma.now c.args.path.now.items c.args.term.now (plain_swept c.args.swept.now)
    c.args.budget.now c.first_use.new.budget c.in-Variable.number c.in-Variable.sort c.in-Variable.ensures.value none

pub sweep-returns-in-Application-clause-exact : goal.sweep-returns-in-Application-clause-exact
sweep-returns-in-Application-clause-exact t c =
    let first = first_rule_use (normaliser_of c.args.reducer.now) (c.args.self.now.lemmas.now ++ c.args.self.now.own.now) in
    let x = c.in-Application in
    let none = rw (c.in-Ok-None.field-0-is, c.as_slice.ensures) at c.in-Ok-None.ensures.exact in
    let same = swept_all first c.args.self.now.gamma.now c.args.path.now.items c.args.term.now (plain_swept c.args.swept.now)
    c.args.budget.now c.first_use.new.budget x.op x.sort (trees_of x.args.now) x.ensures.value none in
    rw same (rw c.first_use.ensures.same at c.sweep_all.ensures.exact)

pub sweep-sweep_all-requires : goal.sweep-sweep_all-requires
sweep-sweep_all-requires t c =
    let value = c.in-Application.ensures.value in
    let depth = ap depth_of value in
    let there = ap (λ u. length (args_of u)) value in
    let same = ap length (list_of-trees_of c.in-Application.args.now) in
    (omega (arith, depth), omega (arith, there, same, c.kind.ensures.few))

-- ---- arguments

pub sweep_all-sweep_at-requires : goal.sweep_all-sweep_at-requires
sweep_all-sweep_at-requires t c = omega (arith, depth_at c.args.args.now c.loop-i.i c.index-args-i.result c.loop-i-test.true c.index-args-i.is)

pub sweep_all-returns-in-Err-clause-exact : goal.sweep_all-returns-in-Err-clause-exact
sweep_all-returns-in-Err-clause-exact t c =
    let i = c.loop-i.invariant in
    let first = first_rule_use (normaliser_of c.args.reducer.now) (c.args.self.now.lemmas.now ++ c.args.self.now.own.now) in
    let G = c.args.self.now.gamma.now in
    let q = c.args.path.now.items in
    let ts = c.args.args.now in
    hinders_same c.in-Err.fault c.sweep_at.new.budget (row_at first G c.args.op q ts 0 (plain_swept c.args.swept.now) c.args.budget.now)
    (row_at first G c.args.op q ts c.loop-i.i (plain_swept c.loop-i.swept) c.loop-i.budget) i.goes
    (row_hindered first G c.args.op q ts c.loop-i.i c.loop-i.budget c.sweep_at.new.budget c.index-args-i.result (plain_swept c.loop-i.swept) c.loop-i-test.true c.index-args-i.is
    c.in-Err.fault (rw (i.same, i.path) at c.in-Err.ensures.exact))

pub sweep_all-loop-i-preserved : goal.sweep_all-loop-i-preserved
sweep_all-loop-i-preserved t c =
    let i = c.loop-i.invariant in
    let first = first_rule_use (normaliser_of c.args.reducer.now) (c.args.self.now.lemmas.now ++ c.args.self.now.own.now) in
    record {
      path = c.in-Ok.ensures.path ∙ i.path;
      less = omega (arith, i.less, c.sweep_at.ensures.less);
      same = c.sweep_at.ensures.same ∙ i.same;
      goes =
          i.goes
          ∙ row_on first c.args.self.now.gamma.now c.args.op c.args.path.now.items c.args.args.now c.loop-i.i c.loop-i.budget
          c.sweep_at.new.budget c.index-args-i.result (plain_swept c.loop-i.swept) c.loop-i-test.true c.index-args-i.is (plain_swept c.sweep_at.new.swept)
          (rw (i.same, i.path) at c.in-Ok.ensures.exact);
    }

pub sweep_all-returns-clause-exact : goal.sweep_all-returns-clause-exact
sweep_all-returns-clause-exact t c =
    let i = c.loop-i.invariant in
    let first = first_rule_use (normaliser_of c.args.reducer.now) (c.args.self.now.lemmas.now ++ c.args.self.now.own.now) in
    i.goes
    ∙ row_end first c.args.self.now.gamma.now c.args.op c.args.path.now.items c.args.args.now c.loop-i.i c.loop-i.budget (plain_swept c.loop-i.swept) (omega (arith, c.loop-i-test.false))

-- ---- one argument

pub sweep_at-returns-then-not-has_place-clause-exact : goal.sweep_at-returns-then-not-has_place-clause-exact
sweep_at-returns-then-not-has_place-clause-exact t c =
    let first = first_rule_use (normaliser_of c.args.reducer.now) (c.args.self.now.lemmas.now ++ c.args.self.now.own.now) in
    ap (λ v. swept_place v (swept_taking first c.args.self.now.gamma.now (c.args.path.now.items ++ c.args.i ∷ []) c.args.arg.now)
    (plain_swept c.args.swept.now) c.args.budget.now) (sym c.has_place.ensures ∙ c.if-not-has_place.true)
