use Rattle.std.proofs.Common.{◌≡◌, map, drop}
use Rattle.std.specs.List.{list_any}
use Rattle.circ_proof.specs.PlainProof.{plain_steps}
use Rattle.circ_reports.specs.PlainProof.{step_has_if}
use Rattle.circ_reports.proofs.left_out.if_among_steps.Given as goal

abbrev pub invariant-loop-step : goal.invariant-loop-step
invariant-loop-step l = list_any step_has_if (plain_steps (drop l.step-index l.steps)) ≡ list_any step_has_if (plain_steps l.steps)
