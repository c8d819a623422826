use Rattle.std.proofs.Common.{◌≡◌, map, ap, sym, ◌∙◌, subst}
use Rattle.circ_term.specs.Limits.{Names, first_limit}
use Rattle.circ_term.specs.Substitution.{instance}
use Rattle.circ_theory.specs.Rewriting.{named}
use Rattle.circ_expansion.specs.Expand.{counted, all_tested, stood, around, whole_with}
use Rattle.circ_tasks.specs.Tasks.{call_of, hypothesised}
use Rattle.circ_uses.specs.Valuations.{by_of}
use Rattle.circ_uses.specs.declared.by.By.{By}
use Rattle.circ_tasks.specs.declared.calls.Call.{Call}
use Rattle.circ_tasks.proofs.Advancing.{standing_past, before_past, stood_on}
use Rattle.circ_tasks.proofs.Stepping.{steps_same}
use Rattle.circ_link_steps.proofs.link_steps.hypothesis_step.Goals as goal

pub returns-in-Err : goal.returns-in-Err
returns-in-Err c =
    let fr = c.args.frame.now in
    let d = call_of fr c.args.more.call.value in
    let u = c.args.used in
    let t = c.args.term.now in
    let by : c.deref-2.result.now ≡ c.args.more.call.value.by.value = cc in
    let P : By → Type 0 = λ b. Names c.in-Err.fault (first_limit (instance (by_of b) t)) in
    standing_past d t (counted c.args.work.now.left (hypothesised fr c.args.work.now c.args.more u.number u.way u.path.now (map (named fr.table.now) u.terms.now)
    (instance d.by t) (around d t))) c.in-Err.fault (subst P by c.in-Err.ensures)

pub returns-in-Err-whole_with : goal.returns-in-Err-whole_with
returns-in-Err-whole_with c =
    let fr = c.args.frame.now in
    let d = call_of fr c.args.more.call.value in
    let u = c.args.used in
    let t = c.args.term.now in
    let x = c.in-Err-whole_with in
    let by : c.deref-2.result.now ≡ c.args.more.call.value.by.value = cc in
    let P : Call → Type 0 = λ k. Names x.fault (first_limit (whole_with (call_of fr k) c.in-Ok.standing)) in
    before_past d t c.in-Ok.standing (counted c.args.work.now.left (hypothesised fr c.args.work.now c.args.more u.number u.way u.path.now
    (map (named fr.table.now) u.terms.now) (instance d.by t) (around d t))) x.fault (c.in-Ok.ensures.0 ∙ ap (λ b. instance (by_of b) t) by)
    (ap (λ b. first_limit (instance (by_of b) t)) (sym by) ∙ c.in-Ok.ensures.1) (subst P c.deref-in-Ok.ensures x.ensures)

pub returns-in-Ok-whole_with : goal.returns-in-Ok-whole_with
returns-in-Ok-whole_with c =
    let fr = c.args.frame.now in
    let w = c.args.work.now in
    let m = c.args.more in
    let d = call_of fr m.call.value in
    let u = c.args.used in
    let t = c.args.term.now in
    let x = c.in-Ok-whole_with in
    let ts = map (named fr.table.now) u.terms.now in
    let s = c.in-Ok.standing in
    let by : c.deref-2.result.now ≡ m.call.value.by.value = cc in
    steps_same fr (all_tested (stood d t) (counted w.left (hypothesised fr w m u.number u.way u.path.now ts (instance d.by t) (around d t))))
    (counted w.left (hypothesised fr w m u.number u.way u.path.now ts s x.before)) c.use_hypothesis.new.work c.use_hypothesis.result
    (stood_on fr w m u.number u.way u.path.now ts t s x.before (c.in-Ok.ensures.0 ∙ ap (λ b. instance (by_of b) t) by)
    (ap (λ b. first_limit (instance (by_of b) t)) (sym by) ∙ c.in-Ok.ensures.1) (x.ensures.0 ∙ ap (λ k. whole_with (call_of fr k) s) c.deref-in-Ok.ensures)
    (ap (λ k. first_limit (whole_with (call_of fr k) s)) (sym c.deref-in-Ok.ensures) ∙ x.ensures.1))
    c.use_hypothesis.ensures
