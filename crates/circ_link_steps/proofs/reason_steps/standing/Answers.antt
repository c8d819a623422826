use Rattle.std.proofs.Common.{◌≡◌, ◌∷◌, [], ap, sym, ◌∙◌, subst}
use Rattle.circ_term.specs.Limits.{Names, first_limit, Builds}
use Rattle.circ_term.specs.Substitution.{instance}
use Rattle.circ_expansion.specs.Expand.{around, stood, whole_with}
use Rattle.circ_tasks.specs.Tasks.{call_of}
use Rattle.circ_uses.specs.Valuations.{by_of}
use Rattle.circ_uses.specs.declared.by.By.{By}
use Rattle.circ_tasks.specs.declared.calls.Call.{Call}
use Rattle.circ_tasks.proofs.Stepping.{names_first, names_later}
use Rattle.circ_link_steps.proofs.Parting.{whole_builds}
use Rattle.circ_link_steps.proofs.reason_steps.standing.Goals as goal

pub returns : goal.returns
returns c =
    let r = c.args.reasons.now in
    let d = call_of c.args.frame.now r.call.value in
    let by : c.deref-2.result.now ≡ r.call.value.by.value = cc in
    let P : By → Type 0 = λ b. Names c.in-Err.fault (first_limit (instance (by_of b) r.term)) in
    names_first (instance d.by r.term) (stood d r.left) c.in-Err.fault (subst P by c.in-Err.ensures)

pub returns-in-Ok : goal.returns-in-Ok
returns-in-Ok c =
    let r = c.args.reasons.now in
    let d = call_of c.args.frame.now r.call.value in
    let by : c.deref-2.result.now ≡ r.call.value.by.value = cc in
    let by2 : c.deref-in-Ok-2.result.now ≡ r.call.value.by.value = cc in
    let P : By → Type 0 = λ b. Names c.in-Err-apply.fault (first_limit (instance (by_of b) r.left)) in
    names_later (instance d.by r.term) (stood d r.left) c.in-Err-apply.fault
    (ap (λ b. first_limit (instance (by_of b) r.term)) (sym by) ∙ c.in-Ok.ensures.1)
    (names_first (instance d.by r.left) (around d r.left ∷ []) c.in-Err-apply.fault (subst P by2 c.in-Err-apply.ensures))

pub returns-in-Ok-apply : goal.returns-in-Ok-apply
returns-in-Ok-apply c =
    let fr = c.args.frame.now in
    let r = c.args.reasons.now in
    let d = call_of fr r.call.value in
    let x = c.in-Ok-apply in
    let by : c.deref-2.result.now ≡ r.call.value.by.value = cc in
    let by2 : c.deref-in-Ok-2.result.now ≡ r.call.value.by.value = cc in
    let P : Call → Type 0 = λ k. Builds c.whole_with.result (whole_with (call_of fr k) x.standing) in
    whole_builds d r.term r.left x.standing c.whole_with.result (ap (λ b. first_limit (instance (by_of b) r.term)) (sym by) ∙ c.in-Ok.ensures.1)
    (x.ensures.0 ∙ ap (λ b. instance (by_of b) r.left) by2) (ap (λ b. first_limit (instance (by_of b) r.left)) (sym by2) ∙ x.ensures.1)
    (subst P c.deref-in-Ok-apply.ensures c.whole_with.ensures)
