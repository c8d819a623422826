use Rattle.circ_chart.specs.Levels.{VariablesAtMost}
use Rattle.circ_chart.proofs.levels.are_variables_least.Given as goal

abbrev pub invariant-loop-variable : goal.invariant-loop-variable
invariant-loop-variable l = VariablesAtMost l.tokens l.levels l.variables l.variable-index
