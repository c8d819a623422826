use Rattle.circ_table.specs.Lines.{picked}
use Rattle.std.proofs.Common.{length}
use Rattle.circ_table.proofs.Firsts.{picked_next}
use Rattle.circ_table.proofs.Naming.{all_at}
use Rattle.circ_table.proofs.lines.pick.Goals as goal

pub loop-place-preserved : goal.loop-place-preserved
loop-place-preserved c =
    let ts = c.args.terms.now in
    let ns = c.args.places.now in
    let at = c.loop-place in
    picked_next ts ns at.place-index c.index-terms-place.result at.copy.items c.share_to.new.list.items (picked ts ns) c.loop-place-test.true
    (all_at (length ts) ns at.place-index c.requires c.loop-place-test.true) c.index-terms-place.is c.in_ok-share_to.ensures.put at.invariant
