use Rattle.circ_files.proofs.Readings.{reads_once}
use Rattle.circ_top.proofs.Proofs.{proofs_come_once}
use Rattle.circ_top.proofs.StoredProofs.{stored_outcome}
use Rattle.circ_top.proofs.laws.stored_proofs_are_accepted.Goals as goal

pub returns : goal.returns
returns c = λ words held report theory proof i th p rt ok fits a short e.
    let once = reads_once c.read_in_one_way.ensures.either c.read_in_one_way.ensures.number c.read_in_one_way.ensures.cause
    c.read_in_one_way.ensures.theory in
    let proofs = proofs_come_once c.one_answer.ensures.proof c.one_answer.ensures.not_both c.one_answer.ensures.cause c.one_verdict.ensures.not_both
    c.one_verdict.ensures.one_failure c.one_verdict.ensures.one_relation in
    stored_outcome once c.read_in_one_way.ensures.theory proofs c.one_answer.ensures.proof held report theory proof th p rt ok
    (record { bytes = _; bytes_are = e; short = short; are = c.text_reads_back.ensures th p fits }) a words i
