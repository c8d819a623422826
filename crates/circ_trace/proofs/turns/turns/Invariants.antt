use Rattle.std.proofs.Common.{◌+◌, ◌-◌, []}
use Rattle.circ_proof.specs.Proof.{step_limit}
use Rattle.circ_attempt.specs.RewritingSearch.{ComesRewriting}
use Rattle.circ_attempt.specs.Search.{going}
use Rattle.circ_block.specs.Rules.{IsRulesOf}
use Rattle.circ_turn.specs.Standing.{standing, conduct_with}
use Rattle.circ_trace.specs.Telling.{RulesAreRead}
use Rattle.circ_trace.proofs.Telling.{GoesOn}
use Rattle.circ_trace.proofs.turns.turns.Given as goal

abbrev pub invariant-loop-rules : goal.invariant-loop-rules
invariant-loop-rules l = record {
  comes : ComesRewriting l.search.theory.now l.search.gamma.now (conduct_with l.search.limits) (going (standing l.fn.state) []) (going (standing l.state) l.passed);
  rules : IsRulesOf l.search.theory.now l.state.hyps.earlier l.rules;
  passes : RulesAreRead l.search (standing l.state) l.passes;
  told : GoesOn l.search.theory.now l.search.gamma.now (conduct_with l.search.limits) (standing l.fn.state) l.fn.out.items l.waiting.items
      (going (standing l.state) l.passed) l.out.items;
}

abbrev pub decreases-loop-rules : goal.decreases-loop-rules
decreases-loop-rules l = l.state.budget + (step_limit - l.state.made)
