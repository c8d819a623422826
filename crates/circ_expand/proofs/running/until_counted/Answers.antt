use Rattle.std.proofs.Common.{◌≡◌, ◌<◌, ◌≤◌, ◌⊎◌, List, [], ap, sym, subst, ◌∙◌, refl, arith, inl, inr}
use Rattle.circ_expansion.specs.Machine.{tasks_weight}
use Rattle.circ_expansion.specs.Expand.{Spending}
use Rattle.circ_expansion.specs.Machine.{Value}
use Rattle.circ_tasks.specs.Tasks.{jobs_of, left_of, Halts}
use Rattle.circ_tasks.specs.declared.tasks.Work.{Work}
use Rattle.circ_tasks.proofs.Counting.{left_after, left_less, left_halts, emptied, no_items, units_stay, weight_falls}
use Rattle.circ_expand.proofs.running.until_counted.Goals as goal

pub loop-task-preserved : goal.loop-task-preserved
loop-task-preserved c =
    let fr = c.args.frame.now in
    let w = c.loop-task.work in
    let p : Work = record w { tasks = c.pop.new.self } in
    let u = c.step.new.work in
    let d = left_less fr w p u c.in-Some.task c.in-Some.ensures.items refl c.in-Ok.ensures in
    record {
      same = c.loop-task.invariant.same ∙ left_after fr w p u c.in-Some.task c.in-Some.ensures.items refl refl c.in-Ok.ensures;
      units = units_stay u.left w.left c.args.work.now.left (tasks_weight (jobs_of fr u)) (tasks_weight (jobs_of fr w)) d c.loop-task.invariant.units c.if-work-units.false;
      first = c.loop-task.invariant.first;
    }

pub loop-task-smaller : goal.loop-task-smaller
loop-task-smaller c =
    let fr = c.args.frame.now in
    let w = c.loop-task.work in
    let p : Work = record w { tasks = c.pop.new.self } in
    let u = c.step.new.work in
    let d = left_less fr w p u c.in-Some.task c.in-Some.ensures.items refl c.in-Ok.ensures in
    weight_falls u.left w.left c.args.work.now.left (tasks_weight (jobs_of fr u)) (tasks_weight (jobs_of fr w)) d c.loop-task.invariant.units c.if-work-units.false

pub returns-then-work-units-clause-same : goal.returns-then-work-units-clause-same
returns-then-work-units-clause-same c =
    let fr = c.args.frame.now in
    let w = c.loop-task.work in
    let p : Work = record w { tasks = c.pop.new.self } in
    c.loop-task.invariant.same ∙ left_after fr w p c.step.new.work c.in-Some.task c.in-Some.ensures.items refl refl c.in-Ok.ensures

pub returns-then-work-units-clause-less : goal.returns-then-work-units-clause-less
returns-then-work-units-clause-less c = inl (omega (arith, c.if-work-units.true, c.loop-task.invariant.first))

pub returns-clause-same : goal.returns-clause-same
returns-clause-same c =
    let fr = c.args.frame.now in
    let w = c.loop-task.work in
    let p : Work = record w { tasks = c.pop.new.self } in
    c.loop-task.invariant.same
    ∙ emptied fr w p (no_items w.tasks.items (sym w.tasks.ok.0 ∙ c.in_default.ensures.cases.0)) (no_items c.pop.new.self.items (sym c.pop.new.self.ok.0 ∙ c.in_default.ensures.cases.1)) refl refl

pub returns-clause-less : goal.returns-clause-less
returns-clause-less c =
    inr (omega (arith, c.loop-task.invariant.units, c.loop-task.invariant.first), no_items c.pop.new.self.items (sym c.pop.new.self.ok.0 ∙ c.in_default.ensures.cases.1))

pub returns-in-Err-clause-halts : goal.returns-in-Err-clause-halts
returns-in-Err-clause-halts c =
    let fr = c.args.frame.now in
    let w = c.loop-task.work in
    let p : Work = record w { tasks = c.pop.new.self } in
    let P : Spending (List Value) → Type 0 = λ o. Halts o c.in-Err.halt in
    subst P (sym c.loop-task.invariant.same) (left_halts fr w p c.in-Some.task c.in-Err.halt c.in-Some.ensures.items refl refl c.in-Err.ensures)
