use Rattle.std.proofs.Common.{drop}
use Rattle.circ_chart.specs.Few.{Enough, Or}
use Rattle.circ_mixfix.specs.Found.{In, AreOrdered, OneRead}
use Rattle.circ_mixfix.proofs.few.readings_of_one.Given as goal

abbrev pub invariant-loop-term : goal.invariant-loop-term
invariant-loop-term l = record {
  enough : Enough (Or (In l.found) (OneRead l.hole (drop l.term-index l.terms))) (OneRead l.hole l.terms);
  ordered : AreOrdered l.found;
}
