use Rattle.std.proofs.Common.{◌+◌, ◌-◌, []}
use Rattle.circ_proof.specs.Proof.{step_limit}
use Rattle.circ_attempt.specs.RewritingSearch.{ComesRewriting}
use Rattle.circ_attempt.specs.Search.{going}
use Rattle.circ_block.specs.Rules.{IsRulesOf}
use Rattle.circ_turn.specs.Standing.{standing}
use Rattle.circ_rewriting_turn.specs.Going.{rewriting_by}
use Rattle.circ_rewriting_turn.specs.PassRules.{ReadAt}
use Rattle.circ_rewriting_turn.proofs.running.turns.Given as goal

abbrev pub invariant-loop-end : goal.invariant-loop-end
invariant-loop-end l = record {
  comes : ComesRewriting l.search.theory.now l.search.gamma.now (rewriting_by l.search) (going (standing l.fn.state) []) (going (standing l.state) l.passed);
  rules : IsRulesOf l.search.theory.now l.state.hyps.earlier l.rules;
  passes : ReadAt l.search.theory.now (standing l.state) l.passes;
}

abbrev pub decreases-loop-end : goal.decreases-loop-end
decreases-loop-end l = l.state.budget + (step_limit - l.state.made)
