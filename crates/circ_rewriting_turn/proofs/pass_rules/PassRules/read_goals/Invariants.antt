use Rattle.std.proofs.Common.{◌≡◌, take}
use Rattle.circ_attempt.specs.Rules.{lemmas_of}
use Rattle.circ_rewriting_turn.proofs.pass_rules.PassRules.read_goals.Given as goal

abbrev pub invariant-loop-n : goal.invariant-loop-n
invariant-loop-n l = record {
  lemmas : l.self.lemmas ≡ lemmas_of l.theory 0 (take l.n l.earlier);
  own : l.self.own ≡ l.fn.self.own;
  script : l.self.script ≡ l.fn.self.script;
  count : l.self.count ≡ l.fn.self.count;
}
