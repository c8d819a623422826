use Rattle.circ_term.specs.Growing.{Grows}
use Rattle.circ_nodes.specs.Named.{tree_at}
use Rattle.circ_entering.proofs.Entered.{AreEntered, IsNumber}
use Rattle.circ_entering.proofs.entering.enter_terms.Given as goal

abbrev pub invariant-loop-term : goal.invariant-loop-term
invariant-loop-term l = record {
  grows : Grows l.fn.nodes l.nodes;
  entered : AreEntered IsNumber tree_at l.terms l.terms l.nodes l.term-index l.numbers.items;
}
