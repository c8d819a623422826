-- What `check` comes to on a proof that was stored.
use Rattle.std.proofs.Common.{◌≡◌, ℕ, List, refl, sym, ◌∙◌, subst, Option}
use Rattle.std.proofs.lemmas.Option.{same_Some}
use Rattle.circ_theory.specs.Theory.{Theory}
use Rattle.circ_theory.specs.WellFormed.{IsWellFormed}
use Rattle.circ_proof.specs.Accepted.{Accepted, FirstFail}
use Rattle.circ_proof.specs.Proof.{Proof}
use Rattle.circ_proof_text.specs.ProofText.{ReadsAsProof}
use Rattle.circ_read.specs.ReadsAs.{ReadsAs}
use Rattle.circ_files.specs.Files.{Held, Holds, RefusesFile}
use Rattle.circ_files.specs.ProofFile.{ReadsProof, ProofRefusal}
use Rattle.circ_files.specs.TheoryFile.{ReadsTheory, TheoryRefusal}
use Rattle.circ_status.specs.declared.status.Status.{Status}
use Rattle.circ_status.specs.declared.status.Status.TheVariants as status
use Rattle.circ_files.proofs.FileFaults.{reads_not_refused}
use Rattle.circ_files.proofs.Readings.{ReadsOnce}
use Rattle.circ_status.specs.Ending.{Stored}
use Rattle.circ_reports.specs.Check.{CheckOutcome, no_theory, no_proof, refused, accepted}
use Rattle.circ_top.specs.Command.{Command, Check, Asks}
use Rattle.circ_top.specs.Outcome.{OutcomeOf, Outcome, usage, command}
use Rattle.circ_reports.specs.declared.report.Report.{Report}
use Rattle.circ_top.proofs.Proofs.{ProofsOnce, read_or_refused}
use Rattle.circ_top.proofs.Requests.{same_command}

-- bytes read as one theory at most
abbrev pub OneTheory : Type 0
OneTheory = (bytes : List ℕ) (th u : Theory) → ReadsAs bytes th → ReadsAs bytes u → u ≡ th

-- bytes read as one proof at most
abbrev pub OneProofEach : Type 0
OneProofEach = (th : Theory) (bytes : List ℕ) (p q : Proof) → IsWellFormed th → ReadsAsProof th bytes p → ReadsAsProof th bytes q → p ≡ q

-- what the bytes of one file are, they all are
pub same_bytes : (held : Held) (name : List ℕ) (P Q : List ℕ → Type 0) (h : Holds held name P) (k : Holds held name Q) → Q h.bytes
same_bytes held name P Q h k = subst Q (same_Some k.bytes h.bytes (sym k.bytes_are ∙ h.bytes_are)) k.are

module _ (once : ReadsOnce) (theories : OneTheory) (proofs : ProofsOnce) (one : OneProofEach) (held : Held) (report : Report) (theory proof : List ℕ)
    (th : Theory) (p : Proof) (rt : ReadsTheory held theory th) (ok : IsWellFormed th) (rp : ReadsProof held proof th p) (a : Accepted th p) where
  same_theory : (u : Theory) → ReadsTheory held theory u → u ≡ th
  same_theory u ru = theories rt.bytes th u rt.are (same_bytes held theory (λ b. ReadsAs b th) (λ b. ReadsAs b u) rt ru)

  proof_reads : (s : Status) → RefusesFile held 2 proof (ProofRefusal th) s → ⊥
  proof_reads s r =
      reads_not_refused held 2 proof (ProofRefusal th) (λ b. ReadsAsProof th b p) s rp (λ place c b h n. read_or_refused proofs th ok p place c b h n) r

  no_failure : (q : Proof) (n : ℕ) → ReadsProof held proof th q → FirstFail th q n → ⊥
  no_failure q n rq f =
      let same : p ≡ q = one th rp.bytes p q ok rp.are (same_bytes held proof (λ b. ReadsAsProof th b p) (λ b. ReadsAsProof th b q) rp rq) in
      let P : Proof → Type 0 = λ x. FirstFail th x n in
      proofs.not_both th p n a (subst P (sym same) f)

  pub stored_checks : (s : Status) (text : List ℕ) → CheckOutcome held report theory proof s text → s ≡ status.Ok
  stored_checks s _ (no_theory _ r) =
      absurd (reads_not_refused held 1 theory TheoryRefusal (λ b. ReadsAs b th) s rt (λ place c b h n. once.either b th place c h n) r)
  stored_checks s _ (no_proof _ u ru r) =
      let P : Theory → Type 0 = λ v. RefusesFile held 2 proof (ProofRefusal v) s in absurd (proof_reads s (subst P (same_theory u ru) r))
  stored_checks _ _ (refused n u q ru rq f) =
      let P : Theory → Type 0 = λ v. ReadsProof held proof v q in
      let Q : Theory → Type 0 = λ v. FirstFail v q n in
      absurd (no_failure q n (subst P (same_theory u ru) rq) (subst Q (same_theory u ru) f))
  stored_checks _ _ (accepted u q derived ru rq d) = refl

  pub stored_outcome : (words : List (List ℕ)) → Asks words (Check report theory proof) → (s : Status) (text : List ℕ) (stored : Option Stored)
      → Outcome words held s text stored → s ≡ status.Ok
  stored_outcome words i _ _ _ (usage n) = absurd (n (Check report theory proof) i)
  stored_outcome words i s text stored (command c _ _ _ j x) =
      let P : Command → Type 0 = λ y. OutcomeOf held y s text stored in
      stored_checks s text (subst P (same_command words c (Check report theory proof) j i) x).0
