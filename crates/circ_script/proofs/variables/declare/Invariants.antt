use Rattle.std.proofs.Common.{◌≡◌, ◌++◌, drop}
use Rattle.circ_mixfix.specs.Answers.{declared_by}
use Rattle.circ_script.specs.Steps.{IsButVariables}
use Rattle.circ_script.proofs.variables.declare.Given as goal

abbrev pub invariant-loop-variable : goal.invariant-loop-variable
invariant-loop-variable l = record {
  all : l.theory.variables ++ declared_by (drop l.variable-index l.variables) ≡ declared_by l.variables;
  kept : IsButVariables l.fn.theory l.theory;
}
