use Rattle.std.proofs.Common.{◌≡◌, ◌∙◌, ℕ, List, Option, Some, refl, sym, subst, ap}
use Rattle.std.specs.Option.{option_map}
use Rattle.circ_proof.specs.PlainProof.{plain_proof}
use Rattle.circ_proof_text.specs.ProofText.{ReadsAsProof}
use Rattle.circ_read.specs.declared.cause.Cause.TheVariants as cause
use Rattle.circ_files.specs.ProofFile.{ProofRefusal}
use Rattle.circ_files.proofs.FileFaults.{more_refusals}
use Rattle.circ_reports.specs.PlainProof.{left_out, PlainProofRefusal, no_proof, has_condition}
use Rattle.circ_reports.proofs.proof_file.take_plain_proof.Goals as goal

pub returns-in-Err-clause-fault : goal.returns-in-Err-clause-fault
returns-in-Err-clause-fault g c =
    more_refusals 2 c.args.name.now (ProofRefusal c.args.theory.now) (PlainProofRefusal c.args.theory.now) (g.S.Shelf.state c.args.shelf.now)
    (g.S.Shelf.state c.take_proof.new.shelf) c.in-Err.status no_proof c.in-Err.ensures.fault

pub returns-in-Some-clause-fault : goal.returns-in-Some-clause-fault
returns-in-Some-clause-fault g c =
    let th = c.args.theory.now in
    let p = plain_proof c.in-Ok.taken.proof in
    let t = c.in-Ok.ensures.takes in
    let some : left_out p ≡ Some c.in-Some.word.now = sym c.in-Some.ensures in
    let refused : (bytes : List ℕ) → ReadsAsProof th bytes p → PlainProofRefusal th 0 (cause.LeftOut c.in_ok-word.word) bytes =
    λ b r. let P : List ℕ → Type 0 = λ x. PlainProofRefusal th 0 (cause.LeftOut x) b in
    subst P (sym c.in_ok-word.ensures) (has_condition b p c.in-Some.word.now r some) in (
      refl,
      record { bytes = t.bytes.bytes; short = t.bytes.short; are = refused t.bytes.bytes t.bytes.are },
      λ e. let h = (t.reads e).0 in record { bytes = h.bytes; bytes_are = h.bytes_are; short = h.short; are = refused h.bytes h.are },
    )
