use Rattle.std.proofs.Common.{◌≡◌, ◌≤◌, ◌+◌, ◌++◌, length, drop}
use Rattle.circ_proof.specs.PlainProof.{plain_steps}
use Rattle.circ_attempt.specs.Following.{derives_in, script_left}
use Rattle.circ_attempt.specs.Rules.{own_rules, derived_of_script}
use Rattle.circ_rewriting_turn.proofs.pass_rules.PassRules.read_steps.Given as goal

abbrev pub invariant-loop-n : goal.invariant-loop-n
invariant-loop-n l = record {
  own : l.self.own ++ own_rules l.number (derived_of_script l.theory l.self.script (plain_steps (drop l.n l.steps))) (drop l.number l.hyps)
      ≡ l.fn.self.own ++ own_rules l.first (derived_of_script l.theory l.fn.self.script (plain_steps (drop l.from l.steps))) (drop l.first l.hyps);
  script : script_left l.theory l.self.script (plain_steps (drop l.n l.steps)) ≡ script_left l.theory l.fn.self.script (plain_steps (drop l.from l.steps));
  number : l.number + derives_in (plain_steps (drop l.n l.steps)) ≡ length l.hyps;
  few : length l.self.own + l.first ≤ length l.fn.self.own + l.number;
  lemmas : l.self.lemmas ≡ l.fn.self.lemmas;
  count : l.self.count ≡ l.fn.self.count;
}
