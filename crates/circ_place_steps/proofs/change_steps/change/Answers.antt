use Rattle.std.proofs.Common.{◌≡◌, ◌-◌, ◌∷◌, Global, Option, Some, None, refl, ap, sym, ◌∙◌, subst, arith}
use Rattle.std.specs.declared.rc.Rc.{Rc}
use Rattle.circ_term.specs.Tree.{Tree}
use Rattle.circ_term.specs.Limits.{Names, first_limit}
use Rattle.circ_expansion.specs.Followed.{put_or_same}
use Rattle.circ_expansion.specs.Expand.{Case, No_case, tested, whole_with}
use Rattle.circ_uses.specs.Guards.{plain_guard}
use Rattle.circ_written.specs.Values.{values_of}
use Rattle.circ_tasks.specs.Tasks.{call_of, FindsCase}
use Rattle.circ_tasks.specs.declared.calls.Call.{Call}
use Rattle.circ_tasks.specs.declared.tasks.Work.{Work}
use Rattle.circ_place_steps.proofs.AtPlaces.{here_past, here_on, next_past, whole_past, changes_on, changed_on, changed_none, changed_found}
use Rattle.circ_tasks.proofs.Stepping.{counted_none}
use Rattle.circ_place_steps.proofs.change_steps.change.Goals as goal

pub returns-in-Err : goal.returns-in-Err
returns-in-Err c = λ v us e.
    let fr = c.args.frame.now in
    let here = c.args.here in
    let P : Call → Type 0 = λ d. Names c.in-Err.fault (first_limit (whole_with (call_of fr d) here)) in
    here_past fr c.args.changes.now c.args.path.now here v us c.args.work.now c.in-Err.fault c.known.ensures (subst P c.deref.ensures c.in-Err.ensures)

pub returns-then-work-eq0 : goal.returns-then-work-eq0
returns-then-work-eq0 c = λ v us e.
    let fr = c.args.frame.now in
    let x = c.args.changes.now in
    let p = c.args.path.now in
    let here = c.args.here in
    let w = c.args.work.now in
    let d = call_of fr x.call.value in
    let u = put_or_same here p x.new in
    let whole : first_limit (whole_with d here) ≡ None =
    ap (λ (y : Call). first_limit (whole_with (call_of fr y) here)) (sym c.deref.ensures) ∙ c.in-Ok.ensures.1 in
    here_on fr x p here v us w c.known.ensures whole
    ∙ counted_none w.left (λ m. tested u (tested (whole_with d u) (changed_on fr x p here v us w m))) c.if-work-eq0.true

pub returns-in-Err-put : goal.returns-in-Err-put
returns-in-Err-put c = λ v us e.
    let fr = c.args.frame.now in
    let x = c.args.changes.now in
    let here = c.args.here in
    let whole : first_limit (whole_with (call_of fr x.call.value) here) ≡ None =
    ap (λ (y : Call). first_limit (whole_with (call_of fr y) here)) (sym c.deref.ensures) ∙ c.in-Ok.ensures.1 in
    next_past fr x c.args.path.now here v us c.args.work.now (c.args.work.now.left - 1) c.in-Err-put.fault c.known.ensures whole
    (omega (arith, c.if-work-eq0.false)) c.in-Err-put.ensures

pub returns-in-Err-whole_with : goal.returns-in-Err-whole_with
returns-in-Err-whole_with c = λ v us e.
    let fr = c.args.frame.now in
    let x = c.args.changes.now in
    let here = c.args.here in
    let whole : first_limit (whole_with (call_of fr x.call.value) here) ≡ None =
    ap (λ (y : Call). first_limit (whole_with (call_of fr y) here)) (sym c.deref.ensures) ∙ c.in-Ok.ensures.1 in
    let Q : Call → Type 0 = λ y. Names c.in-Err-whole_with.fault (first_limit (whole_with (call_of fr y) c.in-Ok-put.next)) in
    let P : Tree → Type 0 = λ u. Names c.in-Err-whole_with.fault (first_limit (whole_with (call_of fr x.call.value) u)) in
    whole_past fr x c.args.path.now here v us c.args.work.now (c.args.work.now.left - 1) c.in-Err-whole_with.fault c.known.ensures whole
    (omega (arith, c.if-work-eq0.false)) c.in-Ok-put.ensures.1
    (subst P c.in-Ok-put.ensures.0 (subst Q c.deref-2.ensures c.in-Err-whole_with.ensures))

pub returns-in_default : goal.returns-in_default
returns-in_default c = λ v us e.
    let fr = c.args.frame.now in
    let x = c.args.changes.now in
    let p = c.args.path.now in
    let here = c.args.here in
    let w = c.args.work.now in
    let n = w.left - 1 in
    let d = call_of fr x.call.value in
    let P : Option (Rc Call Global) → Type 0 = λ o. FindsCase fr x c.in-Ok.whole p here (plain_guard p c.in_ok-guard.guard) o in
    let none : plain_guard p c.in_ok-guard.guard ≡ No_case = subst P c.in_default.is c.in_ok-call.ensures in
    let whole : first_limit (whole_with d here) ≡ None =
    ap (λ (y : Call). first_limit (whole_with (call_of fr y) here)) (sym c.deref.ensures) ∙ c.in-Ok.ensures.1 in
    changes_on fr x p here v us w n c.known.ensures whole (omega (arith, c.if-work-eq0.false)) c.in-Ok-put.ensures.1
    (ap (λ u. first_limit (whole_with d u)) (sym c.in-Ok-put.ensures.0)
    ∙ ap (λ (y : Call). first_limit (whole_with (call_of fr y) c.in-Ok-put.next)) (sym c.deref-2.ensures) ∙ c.in-Ok-whole_with.ensures.1)
    ∙ changed_none fr x p here v us w n (sym c.in_ok-guard.ensures ∙ none)

pub returns : goal.returns
returns c = λ v us e.
    let fr = c.args.frame.now in
    let x = c.args.changes.now in
    let p = c.args.path.now in
    let here = c.args.here in
    let w = c.args.work.now in
    let d = call_of fr x.call.value in
    let new : Work = c.push_change.new.work in
    let y = c.in-Some.call in
    let P : Case → Type 0 = λ k. FindsCase fr x c.in-Ok.whole p here k (Some y) in
    let Q : Option (Rc Call Global) → Type 0 = λ o. FindsCase fr x c.in-Ok.whole p here (plain_guard p c.in_ok-guard.guard) o in
    let found = subst P c.in_ok-guard.ensures (subst Q c.in-Some.is c.in_ok-call.ensures) in
    let whole : first_limit (whole_with d here) ≡ None =
    ap (λ (z : Call). first_limit (whole_with (call_of fr z) here)) (sym c.deref.ensures) ∙ c.in-Ok.ensures.1 in
    let there = c.in-Ok.ensures.0 ∙ ap (λ (z : Call). whole_with (call_of fr z) here) c.deref.ensures in
    changes_on fr x p here v us w new.left c.known.ensures whole (omega (arith, c.if-work-eq0.false, c.push_change.ensures.left)) c.in-Ok-put.ensures.1
    (ap (λ u. first_limit (whole_with d u)) (sym c.in-Ok-put.ensures.0)
    ∙ ap (λ (z : Call). first_limit (whole_with (call_of fr z) c.in-Ok-put.next)) (sym c.deref-2.ensures) ∙ c.in-Ok-whole_with.ensures.1)
    ∙ changed_found fr x p here c.in-Ok.whole c.in-Ok-put.next v us w new y found there c.in-Ok-put.ensures.0 e
    c.in_ok-push_change.ensures.tasks (ap values_of c.push_change.ensures.values)
