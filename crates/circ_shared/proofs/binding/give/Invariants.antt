use Rattle.std.proofs.Common.{◌-◌, List, length, drop, map, true}
use Rattle.circ_theory.specs.Variables.{Variable}
use Rattle.circ_nodes.specs.Named.{tree_at, AreNamed}
use Rattle.circ_shared.specs.Patterns.{variable_trees}
use Rattle.circ_shared.specs.Binding.{Binds}
use Rattle.circ_shared.proofs.binding.give.Given as goal

abbrev pub invariant-loop-done : goal.invariant-loop-done
invariant-loop-done l =
    (vs : List Variable) → AreNamed l.nodes l.variables (variable_trees vs)
    → Binds l.nodes (drop (length l.variables - l.done) vs) (drop (length l.variables - l.done) (map (tree_at l.nodes) l.terms)) l.made.entries true
