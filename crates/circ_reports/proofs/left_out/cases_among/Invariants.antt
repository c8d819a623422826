use Rattle.std.proofs.Common.{◌≡◌, map, drop}
use Rattle.std.specs.List.{list_any}
use Rattle.circ_proof.specs.PlainProof.{plain_steps}
use Rattle.circ_reports.specs.PlainProof.{is_cases}
use Rattle.circ_reports.proofs.left_out.cases_among.Given as goal

abbrev pub invariant-loop-step : goal.invariant-loop-step
invariant-loop-step l = list_any is_cases (plain_steps (drop l.step-index l.steps)) ≡ list_any is_cases (plain_steps l.steps)
