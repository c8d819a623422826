use Rattle.std.proofs.Common.{◌≡◌, ℕ, List, Ok, None, subst}
use Rattle.circ_proof.specs.Accepted.{FirstFail}
use Rattle.circ_proof.specs.PlainProof.{plain_proof}
use Rattle.circ_proof.specs.Proof.{Proof}
use Rattle.circ_file.specs.Decoding.{Decodes}
use Rattle.circ_status.specs.declared.status.Status.TheVariants as status
use Rattle.circ_files.proofs.FileFaults.{if_ok}
use Rattle.circ_status.specs.Ending.{ending, plain_ending}
use Rattle.circ_generate.specs.Generating.{summary_text}
use Rattle.circ_generate.proofs.generating.summary.Goals as goal

pub unreachable-requires-in-Refused : goal.unreachable-requires-in-Refused
unreachable-requires-in-Refused c =
    let th = c.args.theory.now in
    let p = c.requires.0 in
    let D : List ℕ → Type 0 = λ b. Decodes th b (Ok c.in-Ok.proof) in
    let same : plain_proof c.in-Ok.proof ≡ p =
    c.texts_decode.ensures.back th p (Ok c.in-Ok.proof) c.known.ensures c.requires.1.fits (subst D c.requires.1.text c.in-Ok.ensures) in
    let P : Proof → Type 0 = λ x. FirstFail th x c.in-Refused.step in
    c.one_verdict.ensures.not_both th p c.in-Refused.step c.requires.1.accepted (subst P same (rw c.in-Refused.is at c.in_ok-check.ensures.exact))

pub returns : goal.returns
returns c = λ p a.
    let th = c.args.theory.now in
    let n = c.args.number in
    let D : List ℕ → Type 0 = λ b. Decodes th b (Ok c.in-Ok.proof) in
    let same : plain_proof c.in-Ok.proof ≡ p =
    c.texts_decode.ensures.back th p (Ok c.in-Ok.proof) c.known.ensures a.fits (subst D a.text c.in-Ok.ensures) in
    if_ok (λ e. plain_ending e ≡ ending status.Ok (summary_text n (plain_proof c.in-Ok.proof)) None)
    (λ e. plain_ending e ≡ ending status.Ok (summary_text n p) None) c.reported.result c.reported.ensures
    (λ e is. subst (λ x. plain_ending e ≡ ending status.Ok (summary_text n x) None) same is)
