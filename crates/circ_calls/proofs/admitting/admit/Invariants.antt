use Rattle.std.proofs.Common.{◌≡◌}
use Rattle.circ_proof.specs.PlainProof.{plain_certificates}
use Rattle.circ_rules.specs.Due.{due_after}
use Rattle.circ_steps.specs.Judging.{AreRules, terms_at}
use Rattle.circ_calls.proofs.Holding.{resolved, from, HoldSoFar}
use Rattle.circ_calls.proofs.admitting.admit.Given as goal

abbrev pub invariant-loop-done : goal.invariant-loop-done
invariant-loop-done l = record {
  rules : AreRules l.nodes l.rules;
  terms : terms_at l.nodes l.rules ≡ l.table;
  so_far : HoldSoFar l.theory l.gamma (resolved l.table (plain_certificates l.certificates)) (from l.table l.certificates l.done) l.done
      (due_after l.theory l.gamma l.due);
}
