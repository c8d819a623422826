use Rattle.std.proofs.Common.{◌≡◌, ◌≤◌, ◌^◌, drop, List, max}
use Rattle.circ_theory.specs.Variables.{Variable}
use Rattle.circ_nodes.specs.Named.{AreNamed}
use Rattle.circ_shared.specs.Patterns.{variable_trees}
use Rattle.circ_steps.specs.Derivatives.{above_variables}
use Rattle.circ_steps.proofs.derive.above.Given as goal

abbrev pub invariant-loop-variable : goal.invariant-loop-variable
invariant-loop-variable l = record {
  exact : (vs : List Variable) → AreNamed l.nodes l.variables (variable_trees vs) → max l.most (above_variables (drop l.variable-index vs)) ≡ above_variables vs;
  small : l.most ≤ 2 ^ 32;
}
