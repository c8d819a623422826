use Rattle.circ_theory.proofs.Distinct.{different}
use Rattle.circ_theory.proofs.theories.Theory.sort_count.Goals as goal

pub returns-clause-different : goal.returns-clause-different
returns-clause-different c = rw (← c.self.view_is) (different (λ k. k.items) c.self.inside.parts.value.sorts.keys (rw c.deref.ensures at c.len.ensures.unique))
