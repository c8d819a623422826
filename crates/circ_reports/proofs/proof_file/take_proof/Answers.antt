use Rattle.circ_proof.specs.PlainProof.{plain_proof}
use Rattle.circ_reports.proofs.ProofFiles.{OneProof, takes, at_fault}
use Rattle.circ_reports.proofs.proof_file.take_proof.Goals as goal

pub returns-in-Ok-decode_with_table-clause-takes : goal.returns-in-Ok-decode_with_table-clause-takes
returns-in-Ok-decode_with_table-clause-takes g c =
    let th = c.args.theory.now in
    let one : OneProof th = λ bytes p q. c.one_answer.ensures.proof th bytes p q c.known.ensures in
    takes c.args.name.now th _ c.in-Ok.bytes.items c.in-Ok.ensures.short c.in-Ok.ensures.content one (plain_proof c.in-Ok-decode_with_table.proof)
    (rw c.as_slice.ensures.value at c.in-Ok-decode_with_table.ensures).0

pub returns-clause-fault : goal.returns-clause-fault
returns-clause-fault g c =
    let th = c.args.theory.now in
    at_fault c.args.name.now th _ c.in-Ok.bytes.items c.in-Ok.ensures.short c.in-Ok.ensures.content _ c.refusal.result
    (c.refusal.ensures.fault th c.in-Ok.bytes.items (rw c.as_slice.ensures.value at c.in-Err-decode_with_table.ensures))
