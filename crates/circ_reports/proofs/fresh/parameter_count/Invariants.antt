use Rattle.std.proofs.Common.{◌≡◌, ◌+◌, drop}
use Rattle.circ_reports.specs.Expand.{parameter_count}
use Rattle.circ_reports.proofs.fresh.parameter_count.Given as goal

abbrev pub invariant-loop-derivative : goal.invariant-loop-derivative
invariant-loop-derivative l = l.count + parameter_count l.theory (drop l.derivative-index l.derivatives) ≡ parameter_count l.theory l.derivatives
