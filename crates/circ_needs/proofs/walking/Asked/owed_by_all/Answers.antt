use Rattle.std.proofs.Common.{get_or, arith}
use Rattle.circ_needs.specs.Observing.{look}
use Rattle.circ_needs.proofs.Owing.{met_first, met_next, met_all, read_at}
use Rattle.circ_needs.proofs.walking.Asked.owed_by_all.Goals as goal

pub loop-look-init : goal.loop-look-init
loop-look-init c = met_first c.args.self.now c.args.path.now c.args.row.now

pub loop-look-preserved : goal.loop-look-preserved
loop-look-preserved c =
    let row = c.args.row.now in
    let i = c.loop-look.look-index in
    rw c.lesser-owed.ensures
    (met_next c.args.self.now c.args.path.now row i c.loop-look.owed (get_or row i (look 0 0)) (read_at row i (look 0 0) c.loop-look-test.true) c.loop-look.invariant c.owed_by.result
    c.owed_by.ensures)

pub returns : goal.returns
returns c =
    met_all c.args.self.now c.args.path.now c.args.row.now c.loop-look.look-index c.loop-look.owed (omega (arith, c.loop-look-test.false)) c.loop-look.invariant
