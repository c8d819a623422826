use Rattle.std.proofs.Common.{suc, ap, ◌∙◌}
use Rattle.circ_theory.specs.Derivable.{is_case}
use Rattle.circ_expansion.specs.Expand.{case_basis}
use Rattle.circ_expansion.specs.Machine.{Give_reason, all_uses}
use Rattle.circ_tasks.specs.Tasks.{call_of, basis_of, background_in, why_at, assumed, case_list_of}
use Rattle.circ_tasks.specs.declared.calls.Call.{Call}
use Rattle.circ_link_steps.proofs.reason_steps.case.Goals as goal

pub returns : goal.returns
returns c =
    let fr = c.args.frame.now in
    let f = background_in fr in
    let r = c.args.reasons.now in
    let p = is_case r.term (case_list_of r) c.args.constant in
    let called =
    c.in_ok-case_call.ensures ∙ ap (λ (d : Call). record (call_of fr d) { whole = c.args.whole; assumptions = assumed (suc d.assumptions) }) c.deref.ensures in
    let side = c.in_ok-case_basis.ensures r.all.now ∙ ap (λ b. case_basis (all_uses f) f (basis_of fr b) p) c.deref-2.ensures in
    λ i. Give_reason (called i) (side i) (why_at fr c.args.why.now) (c.in_ok-share.ensures.same i) (c.in_ok-share-2.ensures.same i)
