use Rattle.std.proofs.Common.{◌++◌, ◌∷◌, [], length, ap, sym, ◌∙◌, arith}
use Rattle.circ_term.specs.Tree.{depth_of, args_of, trees_of}
use Rattle.circ_term.proofs.Trees.{list_of-trees_of}
use Rattle.circ_term.proofs.Within.{depth_at}
use Rattle.circ_tries.proofs.Faulting.{hinders_same}
use Rattle.circ_conditional_search.specs.Joining.{swept_trying}
use Rattle.circ_join.specs.Sweeping.{plain_swept, plain_due, swept_place}
use Rattle.circ_join.specs.Trying.{normaliser_of}
use Rattle.circ_join.proofs.Sweeps.{swept_used, swept_inside, swept_hindered, inside_variable, inside_all, row_at, row_on, row_hindered, row_end}
use Rattle.circ_join.proofs.passing.Passing.+sweep.Goals as goal

-- ---- a term

pub sweep-returns-in-Err-clause-exact : goal.sweep-returns-in-Err-clause-exact
sweep-returns-in-Err-clause-exact t c =
    swept_hindered (normaliser_of c.args.reducer.now) c.args.self.now.gamma.now c.args.self.now.lemmas.now c.args.path.now.items c.args.term.now (plain_swept c.args.swept.now)
    c.args.budget.now c.first_use.new.budget c.in-Err.fault (rw c.as_slice.ensures at c.in-Err.ensures.exact)

pub sweep-returns-in-Ok-Some-clause-exact : goal.sweep-returns-in-Ok-Some-clause-exact
sweep-returns-in-Ok-Some-clause-exact t c =
    let used = rw (c.in-Ok-Some.field-0-is, c.as_slice.ensures) at c.in-Ok-Some.ensures.exact in
    let same = swept_used (normaliser_of c.args.reducer.now) c.args.self.now.gamma.now c.args.self.now.lemmas.now c.args.path.now.items c.args.term.now (plain_swept c.args.swept.now)
    c.args.budget.now c.first_use.new.budget (plain_due c.in-Ok-Some.due) used in
    rw same c.put.ensures.exact

pub sweep-returns-in-Variable-clause-exact : goal.sweep-returns-in-Variable-clause-exact
sweep-returns-in-Variable-clause-exact t c =
    let none = rw (c.in-Ok-None.field-0-is, c.as_slice.ensures) at c.in-Ok-None.ensures.exact in
    swept_inside (normaliser_of c.args.reducer.now) c.args.self.now.gamma.now c.args.self.now.lemmas.now c.args.path.now.items c.args.term.now (plain_swept c.args.swept.now)
    c.args.budget.now c.first_use.new.budget none
    ∙ inside_variable (normaliser_of c.args.reducer.now) c.args.self.now.gamma.now c.args.self.now.lemmas.now c.args.path.now.items c.args.term.now (plain_swept c.args.swept.now)
    c.in-Variable.number c.in-Variable.sort c.first_use.new.budget c.in-Variable.ensures.value

pub sweep-returns-in-Application-clause-exact : goal.sweep-returns-in-Application-clause-exact
sweep-returns-in-Application-clause-exact t c =
    let x = c.in-Application in
    let none = rw (c.in-Ok-None.field-0-is, c.as_slice.ensures) at c.in-Ok-None.ensures.exact in
    let same =
    swept_inside (normaliser_of c.args.reducer.now) c.args.self.now.gamma.now c.args.self.now.lemmas.now c.args.path.now.items c.args.term.now (plain_swept c.args.swept.now)
    c.args.budget.now c.first_use.new.budget none
    ∙ inside_all (normaliser_of c.args.reducer.now) c.args.self.now.gamma.now c.args.self.now.lemmas.now c.args.path.now.items c.args.term.now (plain_swept c.args.swept.now)
    x.op x.sort c.first_use.new.budget (trees_of x.args.now) x.ensures.value in
    rw same (rw c.first_use.ensures.same at c.sweep_all.ensures.exact)

pub sweep-sweep_all-requires : goal.sweep-sweep_all-requires
sweep-sweep_all-requires t c =
    let value = c.in-Application.ensures.value in
    let depth = ap depth_of value in
    let there = ap (λ u. length (args_of u)) value in
    let same = ap length (list_of-trees_of c.in-Application.args.now) in
    (omega (arith, depth), omega (arith, there, same, c.kind.ensures.few))

-- ---- arguments

pub sweep_all-sweep_at-requires : goal.sweep_all-sweep_at-requires
sweep_all-sweep_at-requires t c = omega (arith, depth_at c.args.args.now c.loop-i.i c.index-args-i.result c.loop-i-test.true c.index-args-i.is)

pub sweep_all-returns-in-Err-clause-exact : goal.sweep_all-returns-in-Err-clause-exact
sweep_all-returns-in-Err-clause-exact t c =
    let i = c.loop-i.invariant in
    let f = normaliser_of c.args.reducer.now in
    let G = c.args.self.now.gamma.now in
    let L = c.args.self.now.lemmas.now in
    let q = c.args.path.now.items in
    let ts = c.args.args.now in
    hinders_same c.in-Err.fault c.sweep_at.new.budget (row_at f G L c.args.op q ts 0 (plain_swept c.args.swept.now) c.args.budget.now)
    (row_at f G L c.args.op q ts c.loop-i.i (plain_swept c.loop-i.swept) c.loop-i.budget) i.goes
    (row_hindered f G L c.args.op q ts c.loop-i.i c.loop-i.budget c.sweep_at.new.budget c.index-args-i.result (plain_swept c.loop-i.swept) c.in-Err.fault c.loop-i-test.true
    c.index-args-i.is (rw (i.same, i.path) at c.in-Err.ensures.exact))

pub sweep_all-loop-i-preserved : goal.sweep_all-loop-i-preserved
sweep_all-loop-i-preserved t c =
    let i = c.loop-i.invariant in
    record {
      path = c.in-Ok.ensures.path ∙ i.path;
      less = omega (arith, i.less, c.sweep_at.ensures.less);
      same = c.sweep_at.ensures.same ∙ i.same;
      goes =
          i.goes
          ∙ row_on (normaliser_of c.args.reducer.now) c.args.self.now.gamma.now c.args.self.now.lemmas.now c.args.op c.args.path.now.items c.args.args.now c.loop-i.i c.loop-i.budget
          c.sweep_at.new.budget c.index-args-i.result (plain_swept c.loop-i.swept) (plain_swept c.sweep_at.new.swept) c.loop-i-test.true c.index-args-i.is
          (rw (i.same, i.path) at c.in-Ok.ensures.exact);
    }

pub sweep_all-returns-clause-exact : goal.sweep_all-returns-clause-exact
sweep_all-returns-clause-exact t c =
    let i = c.loop-i.invariant in
    i.goes
    ∙ row_end (normaliser_of c.args.reducer.now) c.args.self.now.gamma.now c.args.self.now.lemmas.now c.args.op c.args.path.now.items c.args.args.now c.loop-i.i c.loop-i.budget
    (plain_swept c.loop-i.swept) (omega (arith, c.loop-i-test.false))

-- ---- one argument

pub sweep_at-returns-then-not-has_place-clause-exact : goal.sweep_at-returns-then-not-has_place-clause-exact
sweep_at-returns-then-not-has_place-clause-exact t c =
    ap (λ v. swept_place v (swept_trying (normaliser_of c.args.reducer.now) c.args.self.now.gamma.now c.args.self.now.lemmas.now (c.args.path.now.items ++ c.args.i ∷ []) c.args.arg.now)
    (plain_swept c.args.swept.now) c.args.budget.now) (sym c.has_place.ensures ∙ c.if-not-has_place.true)
