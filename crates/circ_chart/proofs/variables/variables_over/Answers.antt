use Rattle.std.proofs.Common.{arith}
use Rattle.circ_chart.specs.Ways.{AnyVariable}
use Rattle.circ_chart.proofs.Asking.{keeps_none, no_variables}
use Rattle.circ_chart.proofs.variables.variables_over.Goals as goal

pub returns-then-to-from-gt1 : goal.returns-then-to-from-gt1
returns-then-to-from-gt1 c =
    let a = c.args in
    keeps_none (AnyVariable a.tokens.now a.below a.sort a.from a.to a.all.now) (no_variables a.tokens.now a.below a.sort a.from a.to a.all.now (omega arith))
