use Rattle.std.proofs.Common.{◌≡◌, ◌-◌, map, ap, sym, ◌∙◌, subst, arith}
use Rattle.circ_term.specs.Tree.{list_of, trees_of}
use Rattle.circ_term.specs.Limits.{Names, first_limit, first_limits}
use Rattle.circ_term.specs.Substitution.{instance, instances}
use Rattle.circ_theory.specs.Rewriting.{named, by_terms}
use Rattle.circ_expansion.specs.Followed.{goal_in}
use Rattle.circ_expansion.specs.Expand.{around, followed_at, start_of}
use Rattle.circ_written.specs.Values.{values_of}
use Rattle.circ_tasks.specs.Tasks.{call_of, basis_of, target_of, background_in, hypothesised, used}
use Rattle.circ_uses.specs.Valuations.{by_of}
use Rattle.circ_tasks.specs.declared.calls.Call.{Call}
use Rattle.circ_tasks.specs.declared.tasks.Work.{Work}
use Rattle.circ_tasks.proofs.Advancing.{used_past, used_whole_past, used_on, instances_within, instances_listed}
use Rattle.circ_tasks.proofs.Stepping.{counted_none, limits_listed}
use Rattle.circ_link_steps.proofs.link_steps.use_hypothesis.Goals as goal

pub returns-then-work-eq0 : goal.returns-then-work-eq0
returns-then-work-eq0 c =
    let fr = c.args.frame.now in
    let u = c.args.used in
    counted_none c.args.work.now.left
    (hypothesised fr c.args.work.now c.args.more u.number u.way u.path.now (map (named fr.table.now) u.terms.now) c.args.standing.now c.args.before) c.if-work-eq0.true

pub returns-in-Err : goal.returns-in-Err
returns-in-Err c =
    let fr = c.args.frame.now in
    let w = c.args.work.now in
    let u = c.args.used in
    let ts = map (named fr.table.now) u.terms.now in
    let P : Call → Type 0 = λ k. Names c.in-Err.fault (first_limits (instances (by_of k.by.value) (trees_of ts))) in
    used_past fr w c.args.more u.number u.way u.path.now ts c.args.standing.now c.args.before (w.left - 1) c.in-Err.fault (omega (arith, c.if-work-eq0.false))
    (subst (Names c.in-Err.fault) (limits_listed (by_of c.args.more.call.value.by.value) ts) (subst P c.deref.ensures c.in-Err.ensures))

pub returns-in-Err-around : goal.returns-in-Err-around
returns-in-Err-around c =
    let fr = c.args.frame.now in
    let w = c.args.work.now in
    let u = c.args.used in
    let ts = map (named fr.table.now) u.terms.now in
    let P : Call → Type 0 = λ k. Names c.in-Err-around.fault (first_limit (around (call_of fr k) c.args.more.term)) in
    let within = ap (λ (k : Call). first_limits (instances (by_of k.by.value) (trees_of ts))) (sym c.deref.ensures) ∙ c.in-Ok.ensures.1 in
    used_whole_past fr w c.args.more u.number u.way u.path.now ts c.args.standing.now c.args.before (w.left - 1) c.in-Err-around.fault (omega (arith, c.if-work-eq0.false))
    (instances_within (by_of c.args.more.call.value.by.value) ts within) (subst P c.deref-2.ensures c.in-Err-around.ensures)

pub returns : goal.returns
returns c =
    let fr = c.args.frame.now in
    let w = c.args.work.now in
    let u = c.args.used in
    let m = c.args.more in
    let d = call_of fr m.call.value in
    let new : Work = c.push_use.new.work in
    let ts = map (named fr.table.now) u.terms.now in
    let us = map (instance d.by) ts in
    let q = followed_at (basis_of fr m.basis.value).hypotheses u.number in
    let whole : c.start_of-whole.result ≡ start_of u.way c.args.before (around d m.term) =
    c.start_of-whole.ensures ∙ ap (start_of u.way c.args.before) (c.in-Ok-around.ensures.0 ∙ ap (λ k. around (call_of fr k) m.term) c.deref-2.ensures) in
    let same : c.in-Ok.terms.items ≡ us = c.in-Ok.ensures.0 ∙ ap (λ (k : Call). list_of (instances (by_of k.by.value) (trees_of ts))) c.deref.ensures ∙ instances_listed d.by ts in
    let within = ap (λ (k : Call). first_limits (instances (by_of k.by.value) (trees_of ts))) (sym c.deref.ensures) ∙ c.in-Ok.ensures.1 in
    let target : target_of fr c.hypothesis-target.result ≡ q =
    c.hypothesis-target.ensures ∙ ap (λ b. followed_at (basis_of fr b).hypotheses u.number) c.deref-3.ensures in
    let by : by_of c.in_ok-by.by.value ≡ by_terms (goal_in q.history) us =
    c.in_ok-by.ensures ∙ (λ i. by_terms (goal_in (target i).history) ((c.as_slice.ensures.value ∙ same) i)) in
    let is : call_of fr c.in_ok-call.call.value
    ≡ used (background_in fr) d q (start_of u.way c.args.before (around d m.term)) c.args.standing.now u.path.now (by_terms (goal_in q.history) us) =
    c.in_ok-call.ensures
    ∙ ap (λ k. used (background_in fr) (call_of fr k) (target_of fr c.hypothesis-target.result) c.start_of-whole.result c.args.standing.now u.path.now (by_of c.in_ok-by.by.value)) c.deref-4.ensures
    ∙ (λ i. used (background_in fr) d (target i) (whole i) c.args.standing.now u.path.now (by i)) in
    used_on fr w new m u.number u.way u.path.now ts c.args.standing.now c.args.before (call_of fr c.in_ok-call.call.value) (omega (arith, c.if-work-eq0.false, c.push_use.ensures.left))
    (instances_within d.by ts within) (ap (λ k. first_limit (around (call_of fr k) m.term)) (sym c.deref-2.ensures) ∙ c.in-Ok-around.ensures.1) is
    c.in_ok-push_use.ensures.tasks (ap values_of c.push_use.ensures.values)
