use Rattle.std.proofs.Common.{Some, ap, ◌∙◌}
use Rattle.circ_expansion.specs.Expand.{Call as Use}
use Rattle.circ_uses.specs.Fronts.{front}
use Rattle.circ_uses.specs.Uses.{layers_of, entries_of}
use Rattle.circ_uses.specs.Valuations.{by_of}
use Rattle.circ_tasks.specs.Tasks.{call_of, target_of}
use Rattle.circ_link_steps.proofs.link_steps.along_call.Goals as goal

pub returns : goal.returns
returns c =
    let fr = c.args.frame.now in
    let th = fr.theory.now in
    let d : Use = call_of fr c.args.call.now in
    ap (call_of fr) c.in_ok-new.ensures.ok
    ∙ (λ i. record d {
      whole = c.args.whole;
      path = (c.in_ok-clone.ensures.cases i).items;
      entries = entries_of th (c.in_ok-share.ensures i);
      along = Some (layers_of th (front c.args.along));
      goal = target_of fr c.args.goal;
      by = by_of c.args.by.value;
    })
