use Rattle.std.proofs.Common.{◌≡◌, ap, sym, ◌∙◌, subst, None}
use Rattle.circ_term.specs.Limits.{Names, first_limit}
use Rattle.circ_expansion.specs.Expand.{Call as Use, around}
use Rattle.circ_expansion.specs.Machine.{Enter_use, use_step, all_uses}
use Rattle.circ_written.specs.Values.{values_of}
use Rattle.circ_tasks.specs.Tasks.{call_of, target_of, background_in, jobs_of, simpler_use, stepped}
use Rattle.circ_tasks.specs.declared.calls.Call.{Call}
use Rattle.circ_tasks.proofs.Stepping.{names_tested, steps_same}
use Rattle.circ_expand.proofs.goal_steps.enter_simpler.Goals as goal

pub returns-in-Err : goal.returns-in-Err
returns-in-Err c =
    let fr = c.args.frame.now in
    let f = background_in fr in
    let s = c.args.simpler in
    let w = c.args.work.now in
    let d = simpler_use fr s in
    let P : Call → Type 0 = λ x. Names c.in-Err.fault (first_limit (around (call_of fr x) s.left)) in
    names_tested (around (call_of fr s.call.value) s.left) (use_step (all_uses f) f d d.along (jobs_of fr w) (values_of w.values) w.left) c.in-Err.fault
    (subst P c.deref-call.ensures c.in-Err.ensures)

pub returns : goal.returns
returns c =
    let fr = c.args.frame.now in
    let s = c.args.simpler in
    let w = c.args.work.now in
    let F : Call → Use = λ x. record (call_of fr x) {
      whole = around (call_of fr x) s.left;
      along = None;
      goal = target_of fr (record { block = x.goal.block; node = s.next });
    } in
    let call = c.deref-call.result.now in
    let same : call_of fr c.in_ok-next-2.next.value ≡ simpler_use fr s =
    ap (call_of fr) c.in_ok-next-2.ensures.ok
    ∙ (λ i. let d : Use = c.in_ok-next.ensures fr i in record d {
      whole = c.in-Ok.ensures.0 i;
      along = None;
      goal = target_of fr (record { block = call.goal.block; node = s.next });
    })
    ∙ ap F c.deref-call.ensures in
    steps_same fr (stepped fr (Enter_use (simpler_use fr s)) w) (stepped fr (Enter_use (call_of fr c.in_ok-next-2.next.value)) w) c.use_step.new.work c.use_step.result
    (ap (λ d. stepped fr (Enter_use d) w) (sym same)) c.use_step.ensures
