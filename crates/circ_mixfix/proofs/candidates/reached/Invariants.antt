use Rattle.circ_mixfix.specs.Least.{AreReached}
use Rattle.circ_mixfix.proofs.candidates.reached.Given as goal

abbrev pub invariant-loop-number : goal.invariant-loop-number
invariant-loop-number l = AreReached l.theory.signature l.words l.sorts l.number l.out.items
