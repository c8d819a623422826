use Rattle.circ_due.specs.Chosen.{due_by}
use Rattle.circ_tries.proofs.Still.{right_nothing}
use Rattle.circ_tries.proofs.trying.Trying.new.Goals as goal

pub invariant_of-result : goal.invariant_of-result
invariant_of-result c =
    rw c.in_ok-new.ensures.ok
    (record {
      ready = c.in_ok-means.ensures.ready c.new-store.result.nodes;
      right = right_nothing (due_by c.in_ok-means.means) c.new-store.result.nodes c.new-store.result.still.items c.new-store.ensures.still;
      built = c.new-store.ensures.terms c.new-store.result.nodes;
    })
