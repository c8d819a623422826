use Rattle.circ_spelling.specs.Usable.{VariablesMarked}
use Rattle.circ_spelling.proofs.marks.mark_variables.Given as goal

abbrev pub invariant-loop-variable : goal.invariant-loop-variable
invariant-loop-variable l = VariablesMarked l.variables l.variable-index l.marks.items
