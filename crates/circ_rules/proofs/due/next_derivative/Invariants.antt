use Rattle.std.proofs.Common.{◌≡◌}
use Rattle.circ_rules.specs.Due.{derivatives_from}
use Rattle.circ_rules.proofs.due.next_derivative.Given as goal

abbrev pub invariant-loop-derivative : goal.invariant-loop-derivative
invariant-loop-derivative l = derivatives_from l.theory l.sort l.derivative ≡ derivatives_from l.theory l.sort l.from
