use Rattle.circ_term.specs.Growing.{Grows}
use Rattle.circ_steps.proofs.Numbering.{AreEntered}
use Rattle.circ_steps.proofs.derivative.variables.Given as goal

abbrev pub invariant-loop-place : goal.invariant-loop-place
invariant-loop-place l = record {
  grows : Grows l.fn.nodes l.nodes;
  entered : AreEntered l.first l.sorts l.nodes l.place l.numbers.items;
}
