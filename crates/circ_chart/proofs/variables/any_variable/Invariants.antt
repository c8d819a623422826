use Rattle.std.proofs.Common.{drop}
use Rattle.circ_chart.specs.Members.{In, IsApart}
use Rattle.circ_chart.specs.Few.{Enough, Or}
use Rattle.circ_chart.specs.Ways.{AnyVariable}
use Rattle.circ_chart.proofs.variables.any_variable.Given as goal

abbrev pub invariant-loop-variable : goal.invariant-loop-variable
invariant-loop-variable l = record {
  enough : Enough (Or (In l.out) (AnyVariable l.tokens l.below l.sort l.from l.to (drop l.variable-index l.variables))) (AnyVariable l.tokens l.below l.sort l.from l.to l.variables);
  apart : IsApart l.out;
}
