use Rattle.std.proofs.Common.{refl}
use Rattle.circ_written.specs.Nodes.{And_link, rope_at}
use Rattle.circ_written.proofs.Opened.{on_ok, opens_link, same_link}
use Rattle.circ_written.proofs.writing.open_link.Goals as goal

pub returns : goal.returns
returns c = λ ns lt.
    on_ok c.open_two.result
    (opens_link ns c.args.way c.args.ahead.now.items c.open_two.new.ahead.items (And_link (rope_at ns c.args.first) c.args.link.now) c.args.first
    c.args.link.now c.in_way-row.result refl lt
    (same_link c.in_ok-copy.copy c.args.link.now c.args.way c.in_way-row.result c.in_ok-copy.ensures.same c.in_way-row.ensures))
    c.open_two.ensures
