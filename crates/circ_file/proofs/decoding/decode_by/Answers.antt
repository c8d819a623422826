use Rattle.std.proofs.Common.{◌∙◌, ℕ, List, [], sym, ap, subst}
use Rattle.std.proofs.lemmas.List.{append-nil}
use Rattle.circ_proof.specs.Proof.{Proof}
use Rattle.circ_proof_text.specs.Parts.{nothing_gathered, gather_all}
use Rattle.circ_proof_text.specs.ProofText.{ReadsAsProof}
use Rattle.circ_proof_text.proofs.Parts.{parts_gathered}
use Rattle.circ_file.specs.Feeding.{FaultIs}
use Rattle.circ_file.proofs.decoding.decode_by.Goals as goal

pub returns-in-Err : goal.returns-in-Err
returns-in-Err c =
    let th = c.args.theory.now in
    let told = c.in-Err.ensures.stands th [] [] c.requires.stands in
    let P : List ℕ → Type 0 = λ y. FaultIs th y c.in-Err.fault in
    subst P (append-nil c.args.bytes.now) (told.1 [])

pub returns-in-Err-end : goal.returns-in-Err-end
returns-in-Err-end c =
    let th = c.args.theory.now in
    let stands = c.in_default.ensures.stands th [] [] c.requires.stands in
    (c.in-Err-end.ensures.stands th c.args.bytes.now [] stands).0

pub returns-in-Ok : goal.returns-in-Ok
returns-in-Ok c =
    let th = c.args.theory.now in
    let stands = c.in_default.ensures.stands th [] [] c.requires.stands in
    let whole = c.in_default-end.ensures.stands th c.args.bytes.now [] stands in
    let parts = ap (gather_all nothing_gathered) whole.2 ∙ parts_gathered th whole.0 whole.1.proof_for in
    let P : Proof → Type 0 = λ p. ReadsAsProof th c.args.bytes.now p in
    (subst P (sym (c.in-Ok.ensures.proof whole.0 parts (whole.3 ∙ sym c.version-version.ensures))) whole.1, c.in-Ok.ensures.table)
