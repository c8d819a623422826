-- What `check` comes to on a proof in version 2: what it comes to on the one that was read.
use Rattle.std.proofs.Common.{◌≡◌, ◌↔◌, ℕ, List, refl, sym, ◌∙◌, subst, Option, None}
use Rattle.circ_theory.specs.Signature.{Signature}
use Rattle.circ_theory.specs.Theory.{Theory}
use Rattle.circ_theory.specs.WellFormed.{IsWellFormed}
use Rattle.circ_theory.specs.Goal.{Goal}
use Rattle.circ_proof.specs.Accepted.{Derives, FirstFail}
use Rattle.circ_proof.specs.Proof.{Proof, ProofFor}
use Rattle.circ_proof_text.specs.ProofText.{ReadsAsProof, proof_text}
use Rattle.circ_read.specs.ReadsAs.{ReadsAs}
use Rattle.circ_files.specs.Files.{Held, Holds, RefusesFile}
use Rattle.circ_files.specs.ProofFile.{ReadsProof, ProofRefusal}
use Rattle.circ_status.specs.Texts.{refused_text}
use Rattle.circ_files.specs.TheoryFile.{ReadsTheory, TheoryRefusal}
use Rattle.circ_status.specs.declared.status.Status.{Status}
use Rattle.circ_status.specs.declared.status.Status.TheVariants as status
use Rattle.circ_files.proofs.FileFaults.{reads_not_refused}
use Rattle.circ_files.proofs.Readings.{ReadsOnce}
use Rattle.circ_status.specs.Ending.{Stored}
use Rattle.circ_reports.specs.Check.{report_text, CheckOutcome, no_theory, no_proof, refused, accepted}
use Rattle.circ_top.specs.Command.{Command, Check, Asks}
use Rattle.circ_top.specs.Outcome.{OutcomeOf, Outcome, usage, command}
use Rattle.circ_reports.specs.Upgrade.{upgraded}
use Rattle.circ_top.specs.Upgraded.{AsksOfUpgraded}
use Rattle.circ_reports.specs.declared.report.Report.{Report}
use Rattle.circ_reports.specs.declared.report.Report.TheVariants.{Goals, Relation}
use Rattle.circ_top.proofs.Proofs.{ProofsOnce, read_or_refused}
use Rattle.circ_top.proofs.Requests.{same_command}
use Rattle.circ_top.proofs.StoredProofs.{OneTheory, OneProofEach, same_bytes}
use Rattle.circ_top.proofs.Upgraded.{upgraded_fits, upgraded_alike}
use Rattle.circ_top.proofs.UpgradeOutcomes.{upgraded_short}

-- what a proof comes to: a step of it is the first that fails, or none does
data Checked (report : Report) (th : Theory) (p : Proof) : Status → (text : List ℕ) → Type 0 where
  step_refused : (n : ℕ) → FirstFail th p n → Checked report th p (status.Refused n) (refused_text n)
  all_accepted : (derived : List (List Goal)) → Derives th p derived → Checked report th p status.Ok (report_text report th.signature p derived)

-- the text of a report does not show the version
same_report : (report : Report) (sig : Signature) (p : Proof) (derived : List (List Goal))
    → report_text report sig (upgraded p) derived ≡ report_text report sig p derived
same_report Goals sig p derived = refl
same_report Relation sig p derived = refl

module _ (report : Report) (th : Theory) (p : Proof) where
  checked_in_new : (s : Status) (text : List ℕ) → Checked report th p s text → Checked report th (upgraded p) s text
  checked_in_new _ _ (step_refused n f) = step_refused n (((upgraded_alike th p).fails n).0 f)
  checked_in_new _ _ (all_accepted derived d) =
      let P : List ℕ → Type 0 = λ text. Checked report th (upgraded p) status.Ok text in
      subst P (same_report report th.signature p derived) (all_accepted derived (((upgraded_alike th p).derives derived).0 d))

  checked_in_old : (s : Status) (text : List ℕ) → Checked report th (upgraded p) s text → Checked report th p s text
  checked_in_old _ _ (step_refused n f) = step_refused n (((upgraded_alike th p).fails n).1 f)
  checked_in_old _ _ (all_accepted derived d) =
      let P : List ℕ → Type 0 = λ text. Checked report th p status.Ok text in
      subst P (sym (same_report report th.signature p derived)) (all_accepted derived (((upgraded_alike th p).derives derived).1 d))

module _ (once : ReadsOnce) (theories : OneTheory) (proofs : ProofsOnce) (one : OneProofEach) where
  -- what `check` comes to where both files read
  module _ (held : Held) (report : Report) (theory proof : List ℕ) (th : Theory) (p : Proof) (ok : IsWellFormed th) (rt : ReadsTheory held theory th)
      (rp : ReadsProof held proof th p) where
    one_theory : (u : Theory) → ReadsTheory held theory u → u ≡ th
    one_theory u ru = theories rt.bytes th u rt.are (same_bytes held theory (λ b. ReadsAs b th) (λ b. ReadsAs b u) rt ru)

    one_proof : (u : Theory) (q : Proof) → u ≡ th → ReadsProof held proof u q → q ≡ p
    one_proof u q e rq =
        let P : Theory → Type 0 = λ v. ReadsProof held proof v q in
        let r = subst P e rq in
        sym (one th rp.bytes p q ok rp.are (same_bytes held proof (λ b. ReadsAsProof th b p) (λ b. ReadsAsProof th b q) rp r))

    checked_of : (s : Status) (text : List ℕ) → CheckOutcome held report theory proof s text → Checked report th p s text
    checked_of s _ (no_theory _ r) =
        absurd (reads_not_refused held 1 theory TheoryRefusal (λ b. ReadsAs b th) s rt (λ place c b h n. once.either b th place c h n) r)
    checked_of s _ (no_proof _ u ru r) =
        let P : Theory → Type 0 = λ v. RefusesFile held 2 proof (ProofRefusal v) s in
        absurd (reads_not_refused held 2 proof (ProofRefusal th) (λ b. ReadsAsProof th b p) s rp
        (λ place c b h n. read_or_refused proofs th ok p place c b h n) (subst P (one_theory u ru) r))
    checked_of _ _ (refused n u q ru rq f) =
        let e = one_theory u ru in
        let P : Theory → Type 0 = λ v. FirstFail v q n in
        let Q : Proof → Type 0 = λ x. FirstFail th x n in
        step_refused n (subst Q (one_proof u q e rq) (subst P e f))
    checked_of _ _ (accepted u q derived ru rq d) =
        let e = one_theory u ru in
        let P : Theory → Type 0 = λ v. Derives v q derived in
        let Q : Proof → Type 0 = λ x. Derives th x derived in
        let R : Theory → Type 0 = λ v. Checked report th p status.Ok (report_text report v.signature q derived) in
        let S : Proof → Type 0 = λ x. Checked report th p status.Ok (report_text report th.signature x derived) in
        let same = one_proof u q e rq in
        subst R (sym e) (subst S (sym same) (all_accepted derived (subst Q same (subst P e d))))

    outcome_of : (s : Status) (text : List ℕ) → Checked report th p s text → CheckOutcome held report theory proof s text
    outcome_of _ _ (step_refused n f) = refused n th p rt rp f
    outcome_of _ _ (all_accepted derived d) = accepted th p derived rt rp d

    -- of words that ask for this
    module _ (words : List (List ℕ)) (i : Asks words (Check report theory proof)) where
      checked_by : (s : Status) (text : List ℕ) (stored : Option Stored) → Outcome words held s text stored → Checked report th p s text × (stored ≡ None)
      checked_by _ _ _ (usage n) = absurd (n (Check report theory proof) i)
      checked_by s text stored (command c _ _ _ j x) =
          let P : Command → Type 0 = λ y. OutcomeOf held y s text stored in
          let y = subst P (same_command words c (Check report theory proof) j i) x in
          (checked_of s text y.0, y.1)

      outcome_by : (s : Status) (text : List ℕ) (stored : Option Stored) → Checked report th p s text → stored ≡ None → Outcome words held s text stored
      outcome_by s text stored c e = command (Check report theory proof) s text stored i (outcome_of s text c, e)

  pub upgraded_checks : (words second : List (List ℕ)) (held later : Held) → AsksOfUpgraded words second held later → (s : Status) (text : List ℕ)
      (stored : Option Stored) → Outcome words held s text stored ↔ Outcome second later s text stored
  upgraded_checks words second held later a s text stored = (
    λ x. let c = checked_by held a.report a.theory a.proof a.th a.p a.well_formed a.reads_theory a.reads_proof words a.asks s text stored x in
        outcome_by later a.report a.later_theory a.later_proof a.th (upgraded a.p) a.well_formed new_theory new_proof second a.asks_again s text stored
        (checked_in_new a.report a.th a.p s text c.0) c.1,
    λ x. let c = checked_by later a.report a.later_theory a.later_proof a.th (upgraded a.p) a.well_formed new_theory new_proof second a.asks_again s text stored x in
        outcome_by held a.report a.theory a.proof a.th a.p a.well_formed a.reads_theory a.reads_proof words a.asks s text stored
        (checked_in_old a.report a.th a.p s text c.0) c.1,
  )
    where
      old : Holds held a.proof (λ bytes. ReadsAsProof a.th bytes a.p)
      old = a.reads_proof

      fits : ProofFor a.th a.p
      fits = old.are.proof_for

      new_theory : ReadsTheory later a.later_theory a.th
      new_theory = record {
        bytes = a.reads_theory.bytes;
        bytes_are = a.same_theory ∙ a.reads_theory.bytes_are;
        short = a.reads_theory.short;
        are = a.reads_theory.are;
      }

      new_proof : ReadsProof later a.later_proof a.th (upgraded a.p)
      new_proof = record {
        bytes = proof_text (upgraded a.p);
        bytes_are = a.upgraded_proof;
        short = upgraded_short a.th a.p (record { bytes = old.bytes; short = old.short; are = old.are });
        are = record { proof_for = upgraded_fits a.th a.p fits; text = refl };
      }
