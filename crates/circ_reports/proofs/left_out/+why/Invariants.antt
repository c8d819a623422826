use Rattle.std.proofs.Common.{◌≡◌, ◌+◌, ◌*◌, drop}
use Rattle.circ_proof.specs.Plain.{plain_why, plain_whys}
use Rattle.circ_replay.proofs.Reasons.{why_depth, whys_depth}
use Rattle.circ_reports.specs.PlainProof.{whys_have_if}
use Rattle.circ_reports.proofs.left_out.+why.Given as goal

abbrev pub decreases-why_has_if : goal.decreases-why_has_if
decreases-why_has_if l = 2 * why_depth (plain_why l.why.now)

abbrev pub decreases-whys_have_if : goal.decreases-whys_have_if
decreases-whys_have_if l = 2 * whys_depth (plain_whys l.whys.now) + 1

abbrev pub invariant-whys_have_if-loop-why : goal.invariant-whys_have_if-loop-why
invariant-whys_have_if-loop-why l = whys_have_if (plain_whys (drop l.why-index l.whys)) ≡ whys_have_if (plain_whys l.whys)
