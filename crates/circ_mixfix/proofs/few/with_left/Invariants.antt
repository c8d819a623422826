use Rattle.std.proofs.Common.{drop}
use Rattle.circ_chart.specs.Few.{Enough, Or}
use Rattle.circ_mixfix.specs.Found.{In, AreOrdered, RightRead}
use Rattle.circ_mixfix.proofs.few.with_left.Given as goal

abbrev pub invariant-loop-right : goal.invariant-loop-right
invariant-loop-right l = record {
  enough : Enough (Or (In l.found) (RightRead l.left (drop l.right-index l.rights))) (Or (In l.initial.found) (RightRead l.left l.rights));
  ordered : AreOrdered l.found;
}
