use Rattle.std.proofs.Common.{ap}
use Rattle.circ_proof.specs.PlainProof.{plain_proof}
use Rattle.circ_files.specs.ProofFile.{ProofRefusal}
use Rattle.circ_files.proofs.FileFaults.{quiet_fault, taken_before}
use Rattle.circ_reports.specs.Upgrade.{theory_fault, proof_fault}
use Rattle.circ_reports.proofs.renewing.upgrade.Goals as goal

pub returns-in-Err-clause-refused : goal.returns-in-Err-clause-refused
returns-in-Err-clause-refused g c = theory_fault c.in-Err.status c.in-Err.ensures.fault

pub returns-in-Err-take_proof-clause-refused : goal.returns-in-Err-take_proof-clause-refused
returns-in-Err-take_proof-clause-refused g c =
    proof_fault c.in-Err-take_proof.status c.in-Ok.theory c.in-Ok.ensures.takes
    (quiet_fault 2 c.args.proof.now (ProofRefusal c.in-Ok.theory) _ _ _ c.in-Err-take_proof.status
    c.in-Ok.ensures.frame c.in-Ok.ensures.quiet c.in-Err-take_proof.ensures.fault)

pub returns-clause-upgraded : goal.returns-clause-upgraded
returns-clause-upgraded g c =
    let p = plain_proof c.in-Ok-take_proof.taken.proof in
    let given = c.in_ok-give_anew.ensures in (
      ap (λ e. e.status) given,
      record {
        th = c.in-Ok.theory;
        p = p;
        takes_theory = c.in-Ok.ensures.takes;
        takes_proof = taken_before c.args.proof.now c.in-Ok.theory p _ _ c.in-Ok.ensures.frame c.in-Ok-take_proof.ensures.takes;
        text_is = ap (λ e. e.text) given;
        stored_is = ap (λ e. e.stored) given;
      },
    )
