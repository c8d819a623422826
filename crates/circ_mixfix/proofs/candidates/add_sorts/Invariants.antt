use Rattle.circ_mixfix.proofs.LeastNumbers.{AddsTo}
use Rattle.circ_mixfix.proofs.candidates.add_sorts.Given as goal

abbrev pub invariant-loop-sort : goal.invariant-loop-sort
invariant-loop-sort l = AddsTo l.theory.signature l.sorts l.sort-index l.word l.fn.out.items l.out.items
