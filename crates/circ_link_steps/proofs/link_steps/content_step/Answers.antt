use Rattle.std.proofs.Common.{◌≡◌, ◌-◌, ◌++◌, ◌∷◌, [], unwrap_or, refl, ap, sym, ◌∙◌, subst, arith}
use Rattle.circ_term.specs.Tree.{Tree, at}
use Rattle.circ_term.specs.Limits.{Names, first_limit}
use Rattle.circ_term.specs.Substitution.{instance}
use Rattle.circ_theory.specs.Rewriting.{named}
use Rattle.circ_expansion.specs.Pieces.{Piece, Content_piece}
use Rattle.circ_expansion.specs.Expand.{counted, base, bounds_of}
use Rattle.circ_written.specs.Nodes.{piece_of}
use Rattle.circ_tasks.specs.Tasks.{call_of, linked}
use Rattle.circ_uses.specs.Valuations.{by_of}
use Rattle.circ_uses.specs.declared.by.By.{By}
use Rattle.circ_tasks.specs.declared.calls.Call.{Call}
use Rattle.circ_tasks.specs.declared.tasks.Work.{Work}
use Rattle.circ_tasks.proofs.Advancing.{linked_on, linked_past}
use Rattle.circ_tasks.proofs.Stepping.{counted_none, steps_same, first_alone, names_alone}
use Rattle.circ_link_steps.proofs.link_steps.content_step.Goals as goal

pub returns-then-work-eq0 : goal.returns-then-work-eq0
returns-then-work-eq0 c = λ v us e.
    let fr = c.args.frame.now in
    let more = c.args.more in
    let d = call_of fr more.call.value in
    let new = named fr.table.now c.args.new in
    let old = unwrap_or (at c.args.term.now c.args.path.now) c.args.term.now in
    counted_none c.args.work.now.left
    (linked fr c.args.work.now more (instance d.by new ∷ []) (Content_piece c.args.op (base d ++ c.args.path.now) old new (bounds_of d.by old new)) v us) c.if-work-eq0.true

pub returns-in-Err : goal.returns-in-Err
returns-in-Err c = λ v us e.
    let fr = c.args.frame.now in
    let w = c.args.work.now in
    let more = c.args.more in
    let d = call_of fr more.call.value in
    let new = named fr.table.now c.args.new in
    let old = unwrap_or (at c.args.term.now c.args.path.now) c.args.term.now in
    let by : c.deref-2.result.now ≡ more.call.value.by.value = cc in
    let Q : By → Type 0 = λ b. Names c.in-Err.fault (first_limit (instance (by_of b) c.in_ok-new.new)) in
    let P : Tree → Type 0 = λ t. Names c.in-Err.fault (first_limit (instance d.by t)) in
    linked_past fr w more (instance d.by new ∷ []) (Content_piece c.args.op (base d ++ c.args.path.now) old new (bounds_of d.by old new)) v us (w.left - 1) c.in-Err.fault
    (omega (arith, c.if-work-eq0.false)) (names_alone (instance d.by new) c.in-Err.fault (subst P c.in_ok-new.ensures (subst Q by c.in-Err.ensures)))

pub returns-in_ok-row-in-Ok : goal.returns-in_ok-row-in-Ok
returns-in_ok-row-in-Ok c = λ v us e.
    let fr = c.args.frame.now in
    let w = c.args.work.now in
    let mid : Work = record w { left = w.left - 1 } in
    let more = c.args.more in
    let op = c.args.op in
    let p = c.args.path.now in
    let d = call_of fr more.call.value in
    let made = c.in_ok-new.new in
    let new = named fr.table.now c.args.new in
    let old = unwrap_or (at c.args.term.now p) c.args.term.now in
    let n : made ≡ new = c.in_ok-new.ensures in
    let by : c.deref-2.result.now ≡ more.call.value.by.value = cc in
    let x : Piece = Content_piece op (base d ++ p) old new (bounds_of d.by old new) in
    let y : Piece = piece_of c.in_ok-row-in-Ok.row in
    let same : y ≡ x = c.in_ok-row-in-Ok.ensures.piece
    ∙ ap (λ (k : Call). Content_piece op (base (call_of fr k) ++ p) old made (bounds_of (by_of k.by.value) old made)) c.deref-in-Ok.ensures
    ∙ ap (λ t. Content_piece op (base d ++ p) old t (bounds_of d.by old t)) n in
    steps_same fr (counted w.left (linked fr w more (instance d.by new ∷ []) x v us)) (linked fr mid more [] y v us mid.left) c.write.new.work c.write.result
    (linked_on fr w mid more (instance d.by new ∷ []) x y v us (omega (arith, c.if-work-eq0.false)) refl
    (first_alone (instance d.by new) (ap (λ t. first_limit (instance d.by t)) (sym n) ∙ ap (λ b. first_limit (instance (by_of b) made)) (sym by) ∙ c.in-Ok.ensures.1)) (sym same))
    (c.write.ensures v us e)
