use Rattle.std.proofs.Common.{◌+◌, ◌-◌}
use Rattle.circ_proof.specs.Proof.{step_limit}
use Rattle.circ_conditional_search.specs.Coming.{ComesTrying}
use Rattle.circ_block.specs.Rules.{IsRulesOf}
use Rattle.circ_turn.specs.Standing.{standing, manner_of}
use Rattle.circ_turn.proofs.search.Search.turns.Given as goal

abbrev pub invariant-loop-end : goal.invariant-loop-end
invariant-loop-end l = record {
  comes : ComesTrying l.self.theory.now l.self.gamma.now (manner_of l.self) (standing l.fn.state) (standing l.state);
  rules : IsRulesOf l.self.theory.now l.state.hyps.earlier l.rules;
}

abbrev pub decreases-loop-end : goal.decreases-loop-end
decreases-loop-end l = l.state.budget + (step_limit - l.state.made)
