use Rattle.std.proofs.Common.{◌*◌, ◌≤◌, drop}
use Rattle.circ_term.specs.Limits.{node_limit, depth_limit}
use Rattle.circ_table.proofs.Measuring.{Measured}
use Rattle.circ_table.proofs.open_table.OpenTable.measure.Given as goal

abbrev pub invariant-loop-arg : goal.invariant-loop-arg
invariant-loop-arg l = record {
  measured : Measured l.self l.args (drop l.arg-index l.args) l.sizes l.depths;
  few : l.sizes ≤ l.arg-index * node_limit;
  shallow : l.depths ≤ depth_limit;
}
