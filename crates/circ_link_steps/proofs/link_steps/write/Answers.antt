use Rattle.std.proofs.Common.{refl, ap, sym, ◌∙◌, subst}
use Rattle.circ_term.specs.Limits.{Names, first_limit}
use Rattle.circ_expansion.specs.Expand.{around}
use Rattle.circ_written.specs.Nodes.{ends_in_row, piece_of}
use Rattle.circ_tasks.specs.Tasks.{call_of}
use Rattle.circ_tasks.specs.declared.calls.Call.{Call}
use Rattle.circ_tasks.specs.declared.tasks.Task.TheVariants as task
use Rattle.circ_tasks.specs.declared.tasks.Work.{Work}
use Rattle.circ_tasks.proofs.Advancing.{written_past, written_on}
use Rattle.circ_tasks.proofs.Stepping.{jobs_pushed}
use Rattle.circ_link_steps.proofs.link_steps.write.Goals as goal

pub returns : goal.returns
returns c = λ v us e.
    let fr = c.args.frame.now in
    let m = c.args.more in
    let P : Call → Type 0 = λ k. Names c.in-Err.fault (first_limit (around (call_of fr k) m.term)) in
    written_past fr c.args.work.now m (piece_of c.args.row) v us c.in-Err.fault (subst P c.deref.ensures c.in-Err.ensures)

pub returns-then-branch : goal.returns-then-branch
returns-then-branch c = λ v us e.
    let fr = c.args.frame.now in
    let w = c.args.work.now in
    let m = c.args.more in
    let new : Work = record w { tasks = c.push.new.self; values = c.add_row.new.self } in
    written_on fr w new m (piece_of c.args.row) v us (ap (λ k. first_limit (around (call_of fr k) m.term)) (sym c.deref.ensures) ∙ c.in-Ok.ensures.1) e
    (c.in_ok-add_row-in-Ok.ensures.added c.if-branch.true) (jobs_pushed fr w.tasks.items c.push.new.self.items (task.Links m) c.in_ok-push-in-Ok.ensures.items) refl

pub returns-in-Ok : goal.returns-in-Ok
returns-in-Ok c = λ v us e.
    absurd (let x = sym c.if-branch.false ∙ c.in_ok-add_row-in-Ok.ensures.last ∙ ap ends_in_row e in cc)
