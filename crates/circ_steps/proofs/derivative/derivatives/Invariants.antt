use Rattle.circ_term.specs.Growing.{Grows}
use Rattle.circ_steps.proofs.Numbering.{FirstAt}
use Rattle.circ_steps.proofs.derivative.derivatives.Given as goal

abbrev pub invariant-loop-number : goal.invariant-loop-number
invariant-loop-number l = record {
  grows : Grows l.fn.nodes l.nodes;
  first : FirstAt l.theory.derivatives l.nodes l.number l.shared.items;
}
