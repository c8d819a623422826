use Rattle.circ_term.specs.Growing.{Grows}
use Rattle.circ_steps.proofs.Entering.{AreEquations}
use Rattle.circ_steps.proofs.sharing.equations.Given as goal

abbrev pub invariant-loop-number : goal.invariant-loop-number
invariant-loop-number l = record {
  grows : Grows l.fn.nodes l.nodes;
  equations : AreEquations l.theory.equations l.nodes l.number l.patterns.items;
}
