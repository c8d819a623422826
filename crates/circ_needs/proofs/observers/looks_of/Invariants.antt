use Rattle.circ_needs.specs.Observing.{AreFoundTo}
use Rattle.circ_needs.proofs.observers.looks_of.Given as goal

abbrev pub invariant-loop-number : goal.invariant-loop-number
invariant-loop-number l = AreFoundTo l.theory.derivatives l.number l.looks.entries
