use Rattle.std.proofs.Common.{drop}
use Rattle.circ_chart.specs.Few.{Enough, Or}
use Rattle.circ_mixfix.specs.Found.{In, AreOrdered, BothRead}
use Rattle.circ_mixfix.proofs.few.readings_of_both.Given as goal

abbrev pub invariant-loop-left : goal.invariant-loop-left
invariant-loop-left l = record {
  enough : Enough (Or (In l.found) (BothRead (drop l.left-index l.lefts) l.rights)) (BothRead l.lefts l.rights);
  ordered : AreOrdered l.found;
}
