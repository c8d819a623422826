use Rattle.circ_term.specs.Growing.{Grows}
use Rattle.circ_term.specs.Substitution.{Substitution}
use Rattle.circ_shared.specs.Memo.{IsMade}
use Rattle.circ_shared.proofs.Paired.{AreInstances}
use Rattle.circ_shared.proofs.rewriting.pair_instances.Given as goal

abbrev pub invariant-loop-pair : goal.invariant-loop-pair
invariant-loop-pair l = record {
  grows : Grows l.fn.nodes l.nodes;
  made : (σ : Substitution) → IsMade σ l.fn.nodes l.fn.made.entries
      → IsMade σ l.nodes l.made.entries × AreInstances σ l.fn.nodes l.pairs l.nodes l.instances.items l.pair-index;
}
