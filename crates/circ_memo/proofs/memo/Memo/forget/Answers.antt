use Rattle.circ_due.specs.Chosen.{due_by}
use Rattle.circ_memo.proofs.Telling.{kept_nothing}
use Rattle.circ_memo.proofs.memo.Memo.forget.Goals as goal

pub invariant_of-self : goal.invariant_of-self
invariant_of-self c =
    let new = c.forget.new.self in
    record {
      store = record {
        ready = c.forget.ensures.ready c.self.inside.work.value.store.nodes new.store.nodes (rw c.deref_mut-work.ensures.value c.self.invariant.store.ready);
        kept = kept_nothing (due_by new.means) new.store.nodes new.store.entries c.forget.ensures.entries;
      };
      built = c.forget.ensures.terms new.store.nodes;
    }
