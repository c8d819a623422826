use Rattle.std.proofs.Common.{suc, refl, ap, sym, ◌∙◌}
use Rattle.circ_expansion.specs.Expand.{Yields}
use Rattle.circ_expansion.specs.Machine.{pending, Give_reason}
use Rattle.circ_tasks.specs.Tasks.{call_of, jobs_of, pending_of, reasons_job, reason_job, stepped, why_at, assumed}
use Rattle.circ_written.specs.Values.{values_of}
use Rattle.circ_tasks.specs.declared.tasks.Work.{Work}
use Rattle.circ_tasks.proofs.Counting.{no_items}
use Rattle.circ_link_steps.proofs.Parting.{reasons_end, constants_end, case_first, case_goes, case_terms, case_pending, case_side}
use Rattle.circ_tasks.proofs.Stepping.{halts_past, names_tests}
use Rattle.circ_link_steps.proofs.reason_steps.reasons_step.Goals as goal

pub returns-in_default : goal.returns-in_default
returns-in_default c =
    let fr = c.args.frame.now in
    let r = c.args.reasons in
    let w = c.args.work.now in
    let new : Work = record w { values = c.add_no_part.new.self } in
    (pending_of fr new, reasons_end fr r w (no_items r.whys.now c.in_default.ensures.cases) ∙ ap (λ vs. Yields (pending (jobs_of fr w) vs) w.left) (sym c.in_ok-add_no_part.ensures), refl, refl)

pub returns-in_default-split_first : goal.returns-in_default-split_first
returns-in_default-split_first c =
    let fr = c.args.frame.now in
    let r = c.args.reasons in
    let w = c.args.work.now in
    let new : Work = record w { values = c.add_no_part-in_default-split_first.new.self } in (
      pending_of fr new,
      constants_end fr r w c.in-Some.why.now c.in-Some.whys.now c.in-Some.ensures.cases.0 (no_items r.constants.now c.in_default-split_first.ensures.cases)
          ∙ ap (λ vs. Yields (pending (jobs_of fr w) vs) w.left) (sym c.in_ok-add_no_part-2.ensures),
      refl,
      refl,
    )

pub returns-in-Err : goal.returns-in-Err
returns-in-Err c =
    let fr = c.args.frame.now in
    let r = c.args.reasons in
    let w = c.args.work.now in
    let x = c.in-Some.why.now in
    let xs = c.in-Some.whys.now in
    let k = c.in-Some-split_first.constant.now in
    let ks = c.in-Some-split_first.constants.now in
    let y = Yields (case_pending fr r w x xs k ks) w.left in
    halts_past (stepped fr (reasons_job fr r) w) _ c.in-Err.fault (case_first fr r w x xs k ks c.in-Some.ensures.cases.0 c.in-Some-split_first.ensures.cases.0)
    (names_tests (case_terms fr r) y c.in-Err.fault c.in-Err.ensures)

pub returns : goal.returns
returns c =
    let fr = c.args.frame.now in
    let r = c.args.reasons in
    let w = c.args.work.now in
    let x = c.in-Some.why.now in
    let xs = c.in-Some.whys.now in
    let k = c.in-Some-split_first.constant.now in
    let ks = c.in-Some-split_first.constants.now in
    case_goes fr r w c.give_reasons.new.work x xs k ks (reason_job fr c.in_ok-case.case) c.in-Some.ensures.cases.0 c.in-Some-split_first.ensures.cases.0 c.in-Ok.ensures.1
    (c.in_ok-case.ensures ∙ ap (λ u. Give_reason (record (call_of fr r.call.value) { whole = u; assumptions = assumed (suc r.call.value.assumptions) })
    (case_side fr r k) (why_at fr x) r.left r.right) c.in-Ok.ensures.0)
    c.in_ok-give_reasons.ensures.tasks (ap values_of c.give_reasons.ensures.values) c.give_reasons.ensures.left
