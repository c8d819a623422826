use Rattle.std.proofs.Common.{◌↔◌, map, drop}
use Rattle.std.specs.List.{filter}
use Rattle.circ_pairs.specs.Variables.{AreNumberedFrom}
use Rattle.circ_pairs.specs.Occurring.{variable_of}
use Rattle.circ_pairs.specs.Slots.{is_parameter}
use Rattle.circ_pairs.proofs.observing.are_in_order.Given as goal

abbrev pub invariant-loop-variable : goal.invariant-loop-variable
invariant-loop-variable l =
    AreNumberedFrom l.next (filter is_parameter (map variable_of (drop l.variable-index l.variables))) ↔ AreNumberedFrom 1 (filter is_parameter (map variable_of l.variables))
