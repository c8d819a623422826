use Rattle.std.proofs.Common.{◌∷◌, ap, sym, ◌∙◌}
use Rattle.circ_expansion.specs.Expand.{Yields}
use Rattle.circ_expansion.specs.Machine.{pending, In_row}
use Rattle.circ_expansion.specs.Pieces.{no_piece}
use Rattle.circ_written.specs.Values.{values_of}
use Rattle.circ_tasks.specs.Tasks.{jobs_of, begun_sides}
use Rattle.circ_link_steps.proofs.reason_steps.split_step.Goals as goal

pub returns-in-Err : goal.returns-in-Err
returns-in-Err c =
    let w = c.args.work.now in
    c.in-Err.ensures (jobs_of c.args.frame.now w) (values_of w.values) w.left

pub returns : goal.returns
returns c =
    let fr = c.args.frame.now in
    let w = c.args.work.now in
    let q = c.args.reason in
    let js = c.in_ok-begin_sides.ensures.tasks ∙ ap (begun_sides fr q.call.value q.basis.value c.args.chain.now q.left q.right) c.in_ok-push_split.ensures.tasks in
    let vs = c.in_ok-begin_sides.ensures.values ∙ ap (λ us. In_row no_piece ∷ values_of us) c.push_split.ensures.values in
    let n = c.begin_sides.ensures.left ∙ c.push_split.ensures.left in
    c.in-Ok.ensures (jobs_of fr w) (values_of w.values) w.left ∙ (λ i. Yields (pending (sym js i) (sym vs i)) (sym n i))
