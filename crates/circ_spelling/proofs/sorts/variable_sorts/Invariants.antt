use Rattle.circ_spelling.specs.Sorts.{AreSeen, StaySorts, VariableSorts}
use Rattle.circ_spelling.proofs.sorts.variable_sorts.Given as goal

abbrev pub invariant-loop-variable : goal.invariant-loop-variable
invariant-loop-variable l = record { seen : AreSeen l.seen.items l.sorts.items; variables : VariableSorts l.variables l.variable-index l.sorts.items; stay : StaySorts l.initial.sorts.items l.sorts.items }
