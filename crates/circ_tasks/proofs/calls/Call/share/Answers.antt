use Rattle.circ_expansion.specs.Expand.{Call as Use}
use Rattle.circ_uses.specs.Uses.{entries_of}
use Rattle.circ_uses.specs.Valuations.{by_of}
use Rattle.circ_tasks.specs.Tasks.{target_of, assumed}
use Rattle.circ_uses.proofs.Sharing.{along_shared}
use Rattle.circ_tasks.proofs.calls.Call.share.Goals as goal

pub returns : goal.returns
returns c = λ fr i.
    let d = c.args.self.now in
    let y : Use = record {
      whole = c.in_ok-share.ensures.same i;
      path = (c.in_ok-clone.ensures.cases i).items;
      entries = entries_of fr.theory.now (c.in_ok-share-2.ensures i);
      along = along_shared fr.theory.now c.in_ok-share_layers.field-0 d.along c.in_ok-share_layers.ensures i;
      goal = target_of fr d.goal;
      by = by_of (c.in_ok-clone-2.ensures.cases i);
      assumptions = assumed d.assumptions;
    } in y
