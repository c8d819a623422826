use Rattle.circ_chart.proofs.Asking.{variable_step}
use Rattle.circ_chart.proofs.variables.any_variable.Goals as goal

pub loop-variable-preserved : goal.loop-variable-preserved
loop-variable-preserved c =
    let a = c.args in
    variable_step a.tokens.now a.from a.to a.sort a.below a.variables.now c.loop-variable.variable-index _ c.loop-variable.out c.with_variable-out.result c.loop-variable-test.true
    c.loop-variable.invariant.enough c.with_variable-out.ensures
