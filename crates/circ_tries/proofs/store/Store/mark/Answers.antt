use Rattle.circ_tries.proofs.Still.{puts_set, puts_on}
use Rattle.circ_tries.proofs.store.Store.mark.Goals as goal

pub returns-clause-marked : goal.returns-clause-marked
returns-clause-marked c =
    puts_on c.args.number c.args.self.now.still.items c.make_room.new.still.items _ c.in_ok-make_room.ensures.same (puts_set c.make_room.new.still.items c.args.number)
