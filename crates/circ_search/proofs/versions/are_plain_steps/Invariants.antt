use Rattle.std.proofs.Common.{◌≡◌, drop}
use Rattle.std.specs.List.{list_all}
use Rattle.circ_proof.specs.PlainProof.{plain_steps}
use Rattle.circ_conditional_search.specs.Versions.{is_plain_step}
use Rattle.circ_search.proofs.versions.are_plain_steps.Given as goal

abbrev pub invariant-loop-step : goal.invariant-loop-step
invariant-loop-step l = list_all is_plain_step (plain_steps (drop l.step-index l.steps)) ≡ list_all is_plain_step (plain_steps l.steps)
