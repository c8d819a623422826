use Rattle.circ_files.proofs.Readings.{reads_once}
use Rattle.circ_top.proofs.Proofs.{proofs_come_once}
use Rattle.circ_top.proofs.UpgradedChecks.{upgraded_checks}
use Rattle.circ_top.proofs.laws.upgraded_proofs_check_alike.Goals as goal

pub returns : goal.returns
returns c =
    let once = reads_once c.read_in_one_way.ensures.either c.read_in_one_way.ensures.number c.read_in_one_way.ensures.cause
    c.read_in_one_way.ensures.theory in
    let proofs = proofs_come_once c.one_answer.ensures.proof c.one_answer.ensures.not_both c.one_answer.ensures.cause c.one_verdict.ensures.not_both
    c.one_verdict.ensures.one_failure c.one_verdict.ensures.one_relation in
    upgraded_checks once c.read_in_one_way.ensures.theory proofs c.one_answer.ensures.proof
