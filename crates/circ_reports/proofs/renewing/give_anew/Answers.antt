use Rattle.std.proofs.Common.{Some, map, ap, ap₂}
use Rattle.circ_proof.specs.PlainProof.{plain_block, plain_proof}
use Rattle.circ_status.specs.declared.status.Status.TheVariants as status
use Rattle.circ_status.specs.Ending.{stored_as, ending}
use Rattle.circ_reports.proofs.renewing.give_anew.Goals as goal

pub returns : goal.returns
returns c =
    ap₂ (λ text bytes. ending status.Ok text (Some (stored_as c.args.name.now bytes)))
    (c.in_ok-text.ensures (plain_proof c.args.proof.now) (ap (map plain_block) c.as_slice.ensures.value)) c.in_ok-bytes.ensures
