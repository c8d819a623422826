use Rattle.std.proofs.Common.{Ok, ap, sym, ◌∙◌}
use Rattle.circ_join.specs.Uses.{plain_use}
use Rattle.circ_join.proofs.PutIn.{put_made, put_stops}
use Rattle.circ_join.proofs.putting.put.Goals as goal

pub returns-in-Ok : goal.returns-in-Ok
returns-in-Ok c =
    let made = rw c.as_slice.ensures at c.in-Ok.ensures in
    put_made c.args.whole.now (plain_use c.args.one.now) c.known.ensures made.1 ∙ ap Ok (sym made.0)

pub returns-in-Err : goal.returns-in-Err
returns-in-Err c = rw c.of_term.ensures (put_stops c.args.whole.now (plain_use c.args.one.now) c.known.ensures c.in-Err.fault (rw c.as_slice.ensures at c.in-Err.ensures))
