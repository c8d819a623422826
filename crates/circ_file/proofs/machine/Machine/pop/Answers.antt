use Rattle.std.proofs.Common.{refl}
use Rattle.circ_file.specs.declared.machine.Machine.{Machine}
use Rattle.circ_file.proofs.Popping.{popped, now_same}
use Rattle.circ_file.proofs.machine.Machine.pop.Goals as goal

pub returns-clause-popped : goal.returns-clause-popped
returns-clause-popped c = popped c.pop_front.result c.args.self.now.queue.items c.pop_front.new.self.items c.pop_front.ensures.items c.pop_front.ensures.rest

pub returns-clause-next : goal.returns-clause-next
returns-clause-next c =
    let old = c.args.self.now in
    let new : Machine = record old { queue = c.pop_front.new.self } in
    now_same old.mode old new refl refl refl refl refl refl refl refl
