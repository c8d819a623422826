use Rattle.circ_theory.proofs.Distinct.{different_operators}
use Rattle.circ_theory.proofs.theories.Theory.op_count.Goals as goal

pub returns-clause-different : goal.returns-clause-different
returns-clause-different c = rw (← c.self.view_is) (different_operators c.self.inside.parts.value.ops.entries c.self.invariant.entries (rw c.deref.ensures at c.len.ensures.unique))
