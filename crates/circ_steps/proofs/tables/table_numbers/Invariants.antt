use Rattle.circ_term.specs.Growing.{Grows}
use Rattle.circ_steps.proofs.Lines.{AreLines}
use Rattle.circ_steps.proofs.tables.table_numbers.Given as goal

abbrev pub invariant-loop-number : goal.invariant-loop-number
invariant-loop-number l = record {
  grows : Grows l.fn.nodes l.nodes;
  lines : AreLines l.table l.nodes l.number l.numbers.items;
}
