use Rattle.std.proofs.Common.{◌≡◌, ◌++◌, drop}
use Rattle.circ_reports.specs.Expand.{variables_named}
use Rattle.circ_reports.proofs.fresh.variables_named.Given as goal

abbrev pub invariant-loop-sort : goal.invariant-loop-sort
invariant-loop-sort l = l.made.items ++ variables_named l.left (drop l.sort-index l.sorts) ≡ variables_named l.numbers l.sorts
