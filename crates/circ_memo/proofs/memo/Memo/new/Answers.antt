use Rattle.circ_due.specs.Chosen.{due_by}
use Rattle.circ_memo.proofs.Telling.{kept_nothing}
use Rattle.circ_memo.proofs.memo.Memo.new.Goals as goal

pub invariant_of-result : goal.invariant_of-result
invariant_of-result c =
    rw c.in_ok-new.ensures.ok
    (record {
      store = record {
        ready = c.in_ok-means.ensures.ready c.new-store.result.nodes;
        kept = kept_nothing (due_by c.in_ok-means.means) c.new-store.result.nodes c.new-store.result.entries c.new-store.ensures;
      };
      built = c.new-terms.ensures c.new-store.result.nodes;
    })
