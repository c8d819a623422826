use Rattle.std.proofs.Common.{◌≡◌, ◌==◌, List, ap, sym, subst, ◌∙◌}
use Rattle.circ_expansion.specs.Expand.{Spending}
use Rattle.circ_expansion.specs.Machine.{Value}
use Rattle.circ_tasks.specs.Tasks.{Halts}
use Rattle.circ_tasks.proofs.Counting.{run_less, none_left, none_there, some_there}
use Rattle.circ_expand.proofs.running.run.Goals as goal

pub loop-work-preserved : goal.loop-work-preserved
loop-work-preserved c = c.loop-work.invariant ∙ c.in-Ok.ensures.same

pub loop-work-smaller : goal.loop-work-smaller
loop-work-smaller c =
    let w = c.loop-work.work in
    let u = c.until_counted.new.work in
    run_less w.left u.left w.tasks.items u.tasks.items (some_there w.tasks.items c.is_empty.result (c.is_empty.ensures ∙ ap (λ n. n == 0) w.tasks.ok.0) c.loop-work-test.true) c.in-Ok.ensures.less

pub returns-clause-done : goal.returns-clause-done
returns-clause-done c =
    let w = c.loop-work.work in
    c.loop-work.invariant ∙ none_left c.args.frame.now w (none_there w.tasks.items c.is_empty.result (c.is_empty.ensures ∙ ap (λ n. n == 0) w.tasks.ok.0) c.loop-work-test.false)

pub returns-in-Err-clause-halts : goal.returns-in-Err-clause-halts
returns-in-Err-clause-halts c =
    let P : Spending (List Value) → Type 0 = λ o. Halts o c.in-Err.halt in
    subst P (sym c.loop-work.invariant) c.in-Err.ensures.halts
