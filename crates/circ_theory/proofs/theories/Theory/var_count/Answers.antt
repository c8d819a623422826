use Rattle.circ_theory.proofs.Distinct.{different_names}
use Rattle.circ_theory.proofs.theories.Theory.var_count.Goals as goal

pub returns-clause-different : goal.returns-clause-different
returns-clause-different c = rw (← c.self.view_is) (different_names (λ k. k.items) (λ v. v) c.self.inside.parts.value.vars.entries (rw c.deref.ensures at c.len.ensures.unique))
