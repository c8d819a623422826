use Rattle.std.proofs.Common.{subst}
use Rattle.circ_theory.specs.Theory.{Theory}
use Rattle.circ_reports.specs.CheckProof.{file_fault}
use Rattle.circ_reports.specs.Incoming.{HasTaken}
use Rattle.circ_files.specs.ProofFile.{ProofRefusal}
use Rattle.circ_files.proofs.FileFaults.{untaken_fault}
use Rattle.circ_reports.proofs.ProofFiles.{OneProof, accepts, refuses, judged_quiet}
use Rattle.circ_reports.proofs.checking.check_proof.Goals as goal

pub returns-in-Err-clause-refused : goal.returns-in-Err-clause-refused
returns-in-Err-clause-refused g c =
    file_fault c.in-Err.status (untaken_fault 2 c.args.name.now (ProofRefusal c.args.theory.now) _ _ c.in-Err.status c.in-Err.ensures.fault)

pub returns-clause-accepted : goal.returns-clause-accepted
returns-clause-accepted g c =
    let th = c.args.theory.now in
    let told = c.in_default.ensures.taken in
    let one : OneProof th = λ bytes p q. c.one_answer.ensures.proof th bytes p q c.known.ensures in
    let P : Theory → Type 0 = λ t. HasTaken t told.bytes c.take_into.new.into in
    accepts c.args.name.now th _ told.bytes told.short told.held one c.args.report c.judge.result
    (c.judge.ensures th told.bytes (subst P c.requires.theory told.are))

pub returns-clause-refused : goal.returns-clause-refused
returns-clause-refused g c =
    let th = c.args.theory.now in
    let told = c.in_default.ensures.taken in
    let one : OneProof th = λ bytes p q. c.one_answer.ensures.proof th bytes p q c.known.ensures in
    let P : Theory → Type 0 = λ t. HasTaken t told.bytes c.take_into.new.into in
    refuses c.args.name.now th _ told.bytes told.short told.held one _ c.args.report c.judge.result
    (c.judge.ensures th told.bytes (subst P c.requires.theory told.are))

pub returns-clause-quiet : goal.returns-clause-quiet
returns-clause-quiet g c =
    let th = c.args.theory.now in
    let told = c.in_default.ensures.taken in
    let P : Theory → Type 0 = λ t. HasTaken t told.bytes c.take_into.new.into in
    judged_quiet c.args.report th told.bytes _ _ c.judge.result c.in_default.ensures.quiet (c.judge.ensures th told.bytes (subst P c.requires.theory told.are))
