use Rattle.std.proofs.Common.{get_or}
use Rattle.circ_check.proofs.Named.{conditions_next, read_at}
use Rattle.circ_check.proofs.naming.share_conditions.Goals as goal

pub loop-name-preserved : goal.loop-name-preserved
loop-name-preserved c =
    let names = c.args.names.now in
    let i = c.loop-name.name-index in
    conditions_next c.args.table.now names i (get_or names i (0, 0)) c.loop-name.conds.items c.push.new.self.items c.loop-name-test.true
    (read_at names i (0, 0) c.loop-name-test.true) c.requires c.in_ok-push.ensures.items c.loop-name.invariant
