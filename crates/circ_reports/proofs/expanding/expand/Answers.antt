use Rattle.circ_proof.specs.PlainProof.{plain_proof}
use Rattle.circ_files.proofs.FileFaults.{quiet_fault, taken_before, if_ok, if_err}
use Rattle.circ_reports.specs.Expand.{Expands, IsExpanded, GivesNone, RefusesExpand, theory_fault, proof_fault, none_given}
use Rattle.circ_reports.specs.PlainProof.{TakesPlainProof, PlainProofRefusal}
use Rattle.circ_reports.proofs.PlainProofs.{nothing_left_out}
use Rattle.circ_reports.proofs.expanding.expand.Goals as goal

pub returns-in-Err-clause-refused : goal.returns-in-Err-clause-refused
returns-in-Err-clause-refused g c = theory_fault c.in-Err.status c.in-Err.ensures.fault

pub returns-in-Err-take_plain_proof-clause-refused : goal.returns-in-Err-take_plain_proof-clause-refused
returns-in-Err-take_plain_proof-clause-refused g c =
    proof_fault c.in-Err-take_plain_proof.status c.in-Ok.theory c.in-Ok.ensures.takes
    (quiet_fault 2 c.args.proof.now (PlainProofRefusal c.in-Ok.theory) _ _ _ c.in-Err-take_plain_proof.status
    c.in-Ok.ensures.frame c.in-Ok.ensures.quiet c.in-Err-take_plain_proof.ensures.fault)

pub expand_proof-requires-clause-plain : goal.expand_proof-requires-clause-plain
expand_proof-requires-clause-plain g c = nothing_left_out (plain_proof c.in-Ok-take_plain_proof.taken.proof) c.in-Ok-take_plain_proof.ensures.takes.plain

pub returns-clause-expanded : goal.returns-clause-expanded
returns-clause-expanded g c =
    let before = g.S.Shelf.state c.args.shelf.now in
    let th = c.in-Ok.theory in
    let p = plain_proof c.in-Ok-take_plain_proof.taken.proof in
    let t = c.in-Ok-take_plain_proof.ensures.takes in
    if_ok (λ v. Expands th p c.args.goal c.args.derivatives.now v.items)
    (λ v. IsExpanded c.args.theory.now c.args.proof.now c.args.goal c.args.derivatives.now v.items before) c.expand_proof.result c.expand_proof.ensures.expands
    (λ v x. record {
      th = th;
      p = p;
      expands = x;
      takes_theory = c.in-Ok.ensures.takes;
      takes_proof = record { takes = taken_before c.args.proof.now th p _ _ c.in-Ok.ensures.frame t.takes; plain = t.plain };
    })

pub returns-clause-refused : goal.returns-clause-refused
returns-clause-refused g c =
    let before = g.S.Shelf.state c.args.shelf.now in
    let after = g.S.Shelf.state c.take_plain_proof.new.shelf in
    let th = c.in-Ok.theory in
    let p = plain_proof c.in-Ok-take_plain_proof.taken.proof in
    let t = c.in-Ok-take_plain_proof.ensures.takes in
    let taken : TakesPlainProof c.args.proof.now th p before =
    record { takes = taken_before c.args.proof.now th p _ _ c.in-Ok.ensures.frame t.takes; plain = t.plain } in
    if_err (GivesNone th p c.args.goal c.args.derivatives.now) (RefusesExpand c.args.theory.now c.args.proof.now c.args.goal c.args.derivatives.now before after)
    c.expand_proof.result c.expand_proof.ensures.none (λ s x. none_given s th p c.in-Ok.ensures.takes taken x)
