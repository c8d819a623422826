use Rattle.std.proofs.Common.{◌≡◌, Option, Some, None, Ok, Err, ap, sym, ◌∙◌, subst}
use Rattle.std.proofs.lemmas.Result.{err_from_is_err_and}
use Rattle.std.specs.Global.{Vec}
use Rattle.circ_theory.specs.Experiment.{on}
use Rattle.circ_entry.specs.Entries.{bare_entries, numbered_entries}
use Rattle.circ_entry.specs.Plain.{plain_entries}
use Rattle.circ_expansion.specs.Followed.{goal_in}
use Rattle.circ_written.specs.Rows.{unit_limit}
use Rattle.circ_uses.specs.Uses.{entries_of}
use Rattle.circ_written.specs.Values.{values_of, IsLastRow}
use Rattle.circ_tasks.specs.Tasks.{call_of, target_of, followed_of, opening_of, worked_in}
use Rattle.circ_written.specs.declared.rows.Row.{Row}
use Rattle.circ_expand.proofs.Writings.{ends_of_goal, worked_past, all_written, all_stopped, all_halted, memory_ends}
use Rattle.circ_expand.proofs.opening.write_out.Goals as goal

pub returns-in-Err : goal.returns-in-Err
returns-in-Err c =
    let fr = c.args.frame.now in
    let th = fr.theory.now in
    let n = c.args.goal in
    let cs = numbered_entries th (plain_entries c.args.entries.now) in
    worked_past fr n cs unit_limit c.in-Err.fault
    (ends_of_goal fr n cs (entries_of th c.as_slice.result.now) (target_of fr c.followed-target.result) (Err c.in-Err.fault)
    (ap (entries_of th) c.as_slice.ensures.value ∙ c.in_ok-held.ensures th) c.followed-target.ensures c.in-Err.ensures)

pub returns-in-Err-run : goal.returns-in-Err-run
returns-in-Err-run c =
    let fr = c.args.frame.now in
    let th = fr.theory.now in
    let n = c.args.goal in
    let cs = numbered_entries th (plain_entries c.args.entries.now) in
    let held = c.in_ok-held.ensures th in
    let ends = ends_of_goal fr n cs (entries_of th c.as_slice.result.now) (target_of fr c.followed-target.result) (Ok c.in-Ok.whole)
    (ap (entries_of th) c.as_slice.ensures.value ∙ held) c.followed-target.ensures c.in-Ok.ensures in
    let opened = c.in_ok-call.ensures n c.followed-target.ensures (ends.0 ∙ ap (λ es. on (bare_entries es) (goal_in (followed_of fr n).history).left) (sym held))
    ∙ ap (opening_of fr n) held in
    all_halted fr n cs unit_limit c.in_ok-work.work (call_of fr c.in_ok-call.call.value) c.in-Ok.whole c.in-Err-run.halt ends c.in_ok-work.ensures.tasks
    c.in_ok-work.ensures.values c.in_ok-work.ensures.units opened c.in-Err-run.ensures.halts

pub returns : goal.returns
returns c =
    let fr = c.args.frame.now in
    let th = fr.theory.now in
    let n = c.args.goal in
    let cs = numbered_entries th (plain_entries c.args.entries.now) in
    let held = c.in_ok-held.ensures th in
    let ends = ends_of_goal fr n cs (entries_of th c.as_slice.result.now) (target_of fr c.followed-target.result) (Ok c.in-Ok.whole)
    (ap (entries_of th) c.as_slice.ensures.value ∙ held) c.followed-target.ensures c.in-Ok.ensures in
    let opened = c.in_ok-call.ensures n c.followed-target.ensures (ends.0 ∙ ap (λ es. on (bare_entries es) (goal_in (followed_of fr n).history).left) (sym held))
    ∙ ap (opening_of fr n) held in
    let last = values_of c.run.new.work.values in
    let P : Option (Vec Row) → Type 0 = λ o. IsLastRow last o in
    all_written fr n cs unit_limit c.in_ok-work.work (call_of fr c.in_ok-call.call.value) c.in-Ok.whole last c.run.new.work.left c.in-Some.rows ends
    c.in_ok-work.ensures.tasks c.in_ok-work.ensures.values c.in_ok-work.ensures.units opened c.in-Ok-run.ensures.done (subst P c.in-Some.is c.in_ok-rows.ensures)

pub returns-in_default : goal.returns-in_default
returns-in_default c =
    let fr = c.args.frame.now in
    let th = fr.theory.now in
    let n = c.args.goal in
    let cs = numbered_entries th (plain_entries c.args.entries.now) in
    let held = c.in_ok-held.ensures th in
    let ends = ends_of_goal fr n cs (entries_of th c.as_slice.result.now) (target_of fr c.followed-target.result) (Ok c.in-Ok.whole)
    (ap (entries_of th) c.as_slice.ensures.value ∙ held) c.followed-target.ensures c.in-Ok.ensures in
    let opened = c.in_ok-call.ensures n c.followed-target.ensures (ends.0 ∙ ap (λ es. on (bare_entries es) (goal_in (followed_of fr n).history).left) (sym held))
    ∙ ap (opening_of fr n) held in
    let last = values_of c.run.new.work.values in
    let P : Option (Vec Row) → Type 0 = λ o. IsLastRow last o in
    all_stopped fr n cs unit_limit c.in_ok-work.work (call_of fr c.in_ok-call.call.value) c.in-Ok.whole last c.run.new.work.left ends
    c.in_ok-work.ensures.tasks c.in_ok-work.ensures.values c.in_ok-work.ensures.units opened c.in-Ok-run.ensures.done (subst P c.in_default.is c.in_ok-rows.ensures)

pub returns-in_err-held : goal.returns-in_err-held
returns-in_err-held c =
    let fr = c.args.frame.now in
    memory_ends (worked_in fr c.args.goal (numbered_entries fr.theory.now (plain_entries c.args.entries.now)) unit_limit) c.from_residual.result
    (err_from_is_err_and c.from_residual.result c.from_residual.ensures.1)

pub returns-in_err-call : goal.returns-in_err-call
returns-in_err-call c =
    let fr = c.args.frame.now in
    memory_ends (worked_in fr c.args.goal (numbered_entries fr.theory.now (plain_entries c.args.entries.now)) unit_limit) c.from_residual-in_err-call.result
    (err_from_is_err_and c.from_residual-in_err-call.result c.from_residual-in_err-call.ensures.1)

pub returns-in_err-work : goal.returns-in_err-work
returns-in_err-work c =
    let fr = c.args.frame.now in
    memory_ends (worked_in fr c.args.goal (numbered_entries fr.theory.now (plain_entries c.args.entries.now)) unit_limit) c.from_residual-in_err-work.result
    (err_from_is_err_and c.from_residual-in_err-work.result c.from_residual-in_err-work.ensures.1)

pub returns-in_err-rows : goal.returns-in_err-rows
returns-in_err-rows c =
    let fr = c.args.frame.now in
    memory_ends (worked_in fr c.args.goal (numbered_entries fr.theory.now (plain_entries c.args.entries.now)) unit_limit) c.from_residual-in_err-rows.result
    (err_from_is_err_and c.from_residual-in_err-rows.result c.from_residual-in_err-rows.ensures.1)
