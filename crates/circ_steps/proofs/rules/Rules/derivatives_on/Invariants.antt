use Rattle.circ_term.specs.Growing.{Grows}
use Rattle.circ_shared.specs.Patterns.{goal_at}
use Rattle.circ_steps.proofs.Deriving.{Stands}
use Rattle.circ_steps.proofs.rules.Rules.derivatives_on.Given as goal

abbrev pub invariant-loop-derivative : goal.invariant-loop-derivative
invariant-loop-derivative l = record {
  grows : Grows l.fn.nodes l.nodes;
  stands : Stands l.self.theory.now (goal_at l.fn.nodes l.goal) l.nodes l.derivative l.derived.items;
}
