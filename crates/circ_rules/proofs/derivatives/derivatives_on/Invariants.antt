use Rattle.circ_rules.proofs.Making.{Stands}
use Rattle.circ_rules.proofs.derivatives.derivatives_on.Given as goal

abbrev pub invariant-loop-derivative : goal.invariant-loop-derivative
invariant-loop-derivative l = Stands l.theory l.goal l.derivative l.derived.items
