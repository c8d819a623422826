use Rattle.std.proofs.Common.{◌≡◌, ◌≤◌, ◌+◌, drop}
use Rattle.circ_proof.specs.PlainProof.{plain_steps}
use Rattle.circ_found.specs.Answering.{derives_among}
use Rattle.circ_found.proofs.counts.derives_among.Given as goal

abbrev pub invariant-loop-step : goal.invariant-loop-step
invariant-loop-step l = record {
  same : l.count + derives_among (plain_steps (drop l.step-index l.steps)) ≡ derives_among (plain_steps l.steps);
  few : l.count ≤ l.step-index;
}
