use Rattle.std.proofs.Common.{◌≡◌, ◌++◌, drop}
use Rattle.circ_trace.specs.Descents.{derived_row}
use Rattle.circ_trace.proofs.descents.push_derivatives.Given as goal

abbrev pub invariant-loop-derivative : goal.invariant-loop-derivative
invariant-loop-derivative l =
    l.waiting.items ++ derived_row l.goal l.sort l.derivative (drop l.derivative l.theory.derivatives)
    ≡ l.fn.waiting.items ++ derived_row l.goal l.sort 0 l.theory.derivatives
