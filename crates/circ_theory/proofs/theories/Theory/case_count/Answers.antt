use Rattle.std.proofs.Common.{arith}
use Rattle.std.proofs.lemmas.List.{length-map}
use Rattle.circ_theory.specs.Inside.{theory_of}
use Rattle.circ_theory.specs.Observing.{case_list}
use Rattle.circ_theory.proofs.Casing.{few_lists}
use Rattle.circ_theory.proofs.theories.Theory.case_count.Goals as goal

pub overflow_cast-result : goal.overflow_cast-result
overflow_cast-result c =
    omega (arith, rw c.deref.ensures at c.len.ensures.len, length-map c.self.inside.parts.value.cases.entries (λ e. case_list e.0 e.1.items), few_lists (theory_of c.self.inside.parts.value) c.self.invariant.well_formed)
