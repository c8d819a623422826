use Rattle.std.proofs.Common.{◌≡◌, ◌+◌, ◌++◌, drop}
use Rattle.circ_pairs.specs.Fresh.{variables_from}
use Rattle.circ_pairs.proofs.building.variables_from.Given as goal

abbrev pub invariant-loop-sort : goal.invariant-loop-sort
invariant-loop-sort l = record {
  next : l.next ≡ l.first + l.sort-index;
  made : l.made.items ++ variables_from l.next (drop l.sort-index l.sorts) ≡ variables_from l.first l.sorts;
}
