use Rattle.std.proofs.Common.{◌≡◌, ◌-◌, ◌++◌, [], map, refl, ap, sym, ◌∙◌, subst, arith}
use Rattle.circ_term.specs.Tree.{list_of, trees_of}
use Rattle.circ_term.specs.Limits.{Names, first_limits}
use Rattle.circ_term.specs.Substitution.{instance, instances}
use Rattle.circ_theory.specs.Rewriting.{named}
use Rattle.circ_expansion.specs.Pieces.{Piece, Equation_piece}
use Rattle.circ_expansion.specs.Expand.{counted, base}
use Rattle.circ_tasks.specs.Tasks.{call_of, linked}
use Rattle.circ_uses.specs.Valuations.{by_of}
use Rattle.circ_tasks.specs.declared.calls.Call.{Call}
use Rattle.circ_tasks.specs.declared.tasks.Work.{Work}
use Rattle.circ_tasks.proofs.Advancing.{linked_on, linked_past, instances_within, instances_listed}
use Rattle.circ_tasks.proofs.Stepping.{counted_none, steps_same, limits_listed}
use Rattle.circ_link_steps.proofs.link_steps.equation_step.Goals as goal

pub returns-then-work-eq0 : goal.returns-then-work-eq0
returns-then-work-eq0 c = λ v us e.
    let fr = c.args.frame.now in
    let more = c.args.more in
    let d = call_of fr more.call.value in
    let ts = map (instance d.by) (map (named fr.table.now) c.args.terms.now) in
    counted_none c.args.work.now.left
    (linked fr c.args.work.now more ts (Equation_piece c.args.number c.args.way (base d ++ c.args.path.now) ts) v us) c.if-work-eq0.true

pub returns-in-Err : goal.returns-in-Err
returns-in-Err c = λ v us e.
    let fr = c.args.frame.now in
    let w = c.args.work.now in
    let more = c.args.more in
    let d = call_of fr more.call.value in
    let us0 = map (named fr.table.now) c.args.terms.now in
    let ts = map (instance d.by) us0 in
    let P : Call → Type 0 = λ k. Names c.in-Err.fault (first_limits (instances (by_of k.by.value) (trees_of us0))) in
    linked_past fr w more ts (Equation_piece c.args.number c.args.way (base d ++ c.args.path.now) ts) v us (w.left - 1) c.in-Err.fault
    (omega (arith, c.if-work-eq0.false)) (subst (Names c.in-Err.fault) (limits_listed d.by us0) (subst P c.deref.ensures c.in-Err.ensures))

pub returns-in_ok-path-in-Ok : goal.returns-in_ok-path-in-Ok
returns-in_ok-path-in-Ok c = λ v us e.
    let fr = c.args.frame.now in
    let w = c.args.work.now in
    let mid : Work = record w { left = w.left - 1 } in
    let more = c.args.more in
    let d = call_of fr more.call.value in
    let us0 = map (named fr.table.now) c.args.terms.now in
    let ts = map (instance d.by) us0 in
    let x : Piece = Equation_piece c.args.number c.args.way (base d ++ c.args.path.now) ts in
    let y : Piece = Equation_piece c.args.number c.args.way c.in_ok-path-in-Ok.path.items c.in-Ok.terms.items in
    let path : c.in_ok-path-in-Ok.path.items ≡ base d ++ c.args.path.now =
    c.in_ok-path-in-Ok.ensures ∙ ap (λ k. base (call_of fr k) ++ c.args.path.now) c.deref-in-Ok.ensures in
    let made : c.in-Ok.terms.items ≡ ts =
    c.in-Ok.ensures.0 ∙ ap (λ (k : Call). list_of (instances (by_of k.by.value) (trees_of us0))) c.deref.ensures ∙ instances_listed d.by us0 in
    let within = ap (λ (k : Call). first_limits (instances (by_of k.by.value) (trees_of us0))) (sym c.deref.ensures) ∙ c.in-Ok.ensures.1 in
    let same : x ≡ y = λ i. Equation_piece c.args.number c.args.way (sym path i) (sym made i) in
    steps_same fr (counted w.left (linked fr w more ts x v us)) (linked fr mid more [] y v us mid.left) c.write.new.work c.write.result
    (linked_on fr w mid more ts x y v us (omega (arith, c.if-work-eq0.false)) refl (instances_within d.by us0 within) same)
    (c.write.ensures v us e)
