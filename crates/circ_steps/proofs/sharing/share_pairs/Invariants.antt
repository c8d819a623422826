use Rattle.circ_term.specs.Growing.{Grows}
use Rattle.circ_steps.proofs.Entering.{ArePairs}
use Rattle.circ_steps.proofs.sharing.share_pairs.Given as goal

abbrev pub invariant-loop-pair : goal.invariant-loop-pair
invariant-loop-pair l = record {
  grows : Grows l.fn.nodes l.nodes;
  pairs : ArePairs l.pairs l.nodes l.pair-index l.shared.items;
}
