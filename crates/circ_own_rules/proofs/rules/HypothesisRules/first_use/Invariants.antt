use Rattle.std.proofs.Common.{◌≡◌, ◌≤◌, ◌-◌, drop, length}
use Rattle.circ_join.specs.Trying.{normaliser_of}
use Rattle.circ_attempt.specs.Rules.{first_rule_use}
use Rattle.circ_own_rules.proofs.rules.HypothesisRules.first_use.Given as goal

abbrev pub invariant-loop-place : goal.invariant-loop-place
invariant-loop-place l = record {
  less : l.budget ≤ l.fn.budget;
  same : l.reducer ≡ l.fn.reducer;
  tried :
      first_rule_use (normaliser_of l.fn.reducer) l.self l.path l.term l.fn.budget
      ≡ first_rule_use (normaliser_of l.fn.reducer) (drop l.from l.self) l.path l.term l.budget;
}

abbrev pub decreases-loop-place : goal.decreases-loop-place
decreases-loop-place l = length l.self - l.from
