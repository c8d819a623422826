use Rattle.std.proofs.Common.{map, arith}
use Rattle.circ_memo.specs.Packing.{unpacked}
use Rattle.circ_memo.proofs.Entries.{puts_on, puts_packed}
use Rattle.circ_memo.proofs.packed.Entries.put.Goals as goal

pub returns-clause-put : goal.returns-clause-put
returns-clause-put c =
    rw (← c.self.view_is)
    (puts_on c.args.place c.args.entry (map unpacked c.self.inside.packed.items) (map unpacked c.make_room.new.packed.items) _ c.in_ok-make_room.ensures.same
    (puts_packed c.make_room.new.packed.items c.args.place c.in-Some.packed c.args.entry c.in-Some.ensures (omega (arith, c.requires, c.in_ok-make_room.ensures.room))))
