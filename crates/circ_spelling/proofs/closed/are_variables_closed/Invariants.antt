use Rattle.circ_spelling.specs.May.{VariablesClosed}
use Rattle.circ_spelling.proofs.closed.are_variables_closed.Given as goal

abbrev pub invariant-loop-variable : goal.invariant-loop-variable
invariant-loop-variable l = VariablesClosed l.tokens l.starts l.variables l.variable-index l.place
