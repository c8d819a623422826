use Rattle.circ_term.specs.Growing.{Grows}
use Rattle.circ_steps.proofs.Splitting.{AreCases}
use Rattle.circ_steps.proofs.cases.cases_on.Given as goal

abbrev pub invariant-loop-constant : goal.invariant-loop-constant
invariant-loop-constant l = record {
  grows : Grows l.fn.nodes l.nodes;
  cases : AreCases l.fn.nodes l.goal l.term l.nodes l.constants l.constant-index l.cases.items;
}
