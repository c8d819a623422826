use Rattle.circ_due.specs.Chosen.{due_by}
use Rattle.circ_tries.proofs.Still.{right_nothing}
use Rattle.circ_tries.proofs.trying.Trying.forget.Goals as goal

pub invariant_of-self : goal.invariant_of-self
invariant_of-self c =
    let new = c.forget.new.self in
    record {
      ready = c.forget.ensures.ready c.self.inside.work.value.store.nodes new.store.nodes (rw c.deref_mut-work.ensures.value c.self.invariant.ready);
      right = right_nothing (due_by new.means) new.store.nodes new.store.still.items c.forget.ensures.still;
      built = c.forget.ensures.terms new.store.nodes;
    }
