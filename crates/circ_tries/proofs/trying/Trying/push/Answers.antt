use Rattle.circ_due.specs.Chosen.{due_by}
use Rattle.circ_tries.proofs.Still.{right_nothing}
use Rattle.circ_tries.proofs.trying.Trying.push.Goals as goal

pub push-requires-clause-ready : goal.push-requires-clause-ready
push-requires-clause-ready c = (
  c.forget.new.self.store.nodes,
  c.forget.ensures.ready c.self.inside.work.value.store.nodes c.forget.new.self.store.nodes (rw c.deref_mut-work.ensures.value c.self.invariant.ready),
)

pub invariant_of-self : goal.invariant_of-self
invariant_of-self c =
    let store = c.forget.new.self.store in
    record {
      ready =
          c.push.ensures.ready store.nodes
          (c.forget.ensures.ready c.self.inside.work.value.store.nodes store.nodes (rw c.deref_mut-work.ensures.value c.self.invariant.ready));
      right = right_nothing (due_by c.push.new.self) store.nodes store.still.items c.forget.ensures.still;
      built = c.forget.ensures.terms store.nodes;
    }
