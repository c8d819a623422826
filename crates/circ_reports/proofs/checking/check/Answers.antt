use Rattle.circ_reports.specs.Check.{IsAccepted, RefusesCheck, theory_fault}
use Rattle.circ_reports.specs.CheckProof.{AcceptsProof, RefusesProof}
use Rattle.circ_files.proofs.FileFaults.{if_ok, if_err}
use Rattle.circ_files.proofs.FileFaults.{quiet_call_after}
use Rattle.circ_reports.proofs.ProofFiles.{accepted_since, refused_since}
use Rattle.circ_reports.proofs.checking.check.Goals as goal

pub returns-in-Err-clause-refused : goal.returns-in-Err-clause-refused
returns-in-Err-clause-refused g c = theory_fault c.in-Err.status c.in-Err.ensures.fault

pub returns-clause-accepted : goal.returns-clause-accepted
returns-clause-accepted g c =
    let before = g.S.Shelf.state c.args.shelf.now in
    let middle = g.S.Shelf.state c.take_theory.new.shelf in
    let th = c.in-Ok.theory in
    let told = c.in-Ok.ensures in
    if_ok (λ v. AcceptsProof c.args.report c.args.proof.now th v.items middle) (λ v. IsAccepted c.args.report c.args.theory.now c.args.proof.now v.items before)
    c.check_proof.result c.check_proof.ensures.accepted
    (λ v. accepted_since c.args.report c.args.theory.now c.args.proof.now th before middle middle told.takes told.frame told.quiet v.items)

pub returns-clause-refused : goal.returns-clause-refused
returns-clause-refused g c =
    let before = g.S.Shelf.state c.args.shelf.now in
    let middle = g.S.Shelf.state c.take_theory.new.shelf in
    let after = g.S.Shelf.state c.check_proof.new.shelf in
    let th = c.in-Ok.theory in
    let told = c.in-Ok.ensures in
    if_err (RefusesProof c.args.proof.now th middle after) (RefusesCheck c.args.theory.now c.args.proof.now before after)
    c.check_proof.result c.check_proof.ensures.refused
    (refused_since c.args.report c.args.theory.now c.args.proof.now th before middle after told.takes told.frame told.quiet)

pub returns-clause-quiet : goal.returns-clause-quiet
returns-clause-quiet g c = quiet_call_after _ _ _ c.check_proof.result c.in-Ok.ensures.quiet c.check_proof.ensures.quiet
