use Rattle.std.proofs.Common.{refl}
use Rattle.circ_written.specs.Nodes.{And_row, rope_at}
use Rattle.circ_written.proofs.Opened.{on_ok, opens_behind}
use Rattle.circ_written.proofs.writing.open_behind.Goals as goal

pub returns : goal.returns
returns c = λ ns lt le.
    on_ok c.open_two.result
    (opens_behind ns c.args.way c.args.ahead.now.items c.open_two.new.ahead.items (And_row (rope_at ns c.args.first) c.args.own (rope_at ns c.args.next))
    c.args.first c.args.own c.args.next refl lt le c.composed-within.result c.composed-within.ensures)
    c.open_two.ensures
