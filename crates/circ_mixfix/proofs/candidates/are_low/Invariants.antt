use Rattle.std.proofs.Common.{◌≡◌, ◌<◌, ◌≤◌, ℕ, Some}
use Rattle.std.specs.List.{slice_get}
use Rattle.circ_spelling.specs.declared.grammar.Variable.{Variable}
use Rattle.circ_mixfix.specs.Least.{least_of}
use Rattle.circ_mixfix.proofs.candidates.are_low.Given as goal

abbrev pub invariant-loop-variable : goal.invariant-loop-variable
invariant-loop-variable l = (n : ℕ) (v : Variable) → n < l.variable-index → slice_get l.variables n ≡ Some v → least_of l.least v.sort ≤ 1
