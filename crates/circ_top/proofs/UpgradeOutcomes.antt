-- What `upgrade` answers, and its outcome.
use Rattle.std.proofs.Common.{◌≡◌, ◌≤◌, ℕ, List, length, refl, ap, sym, ◌∙◌, subst, inl, inr, true, arith, Option, Some, None}
use Rattle.circ_outer.specs.Shelf.{ShelfState}
use Rattle.circ_theory.specs.Theory.{Theory}
use Rattle.circ_theory.specs.WellFormed.{IsWellFormed}
use Rattle.circ_proof.specs.Proof.{Proof}
use Rattle.circ_proof_text.specs.ProofText.{ReadsAsProof, proof_text}
use Rattle.circ_read.specs.ReadsAs.{ReadsAs}
use Rattle.circ_files.specs.Files.{AreBytes, IsOnly, RefusesFile, IsUnread, IsTooLong, IsFileFault}
use Rattle.circ_files.specs.Like.{IsLike, itself}
use Rattle.circ_files.specs.ProofFile.{ReadsProof, ProofRefusal}
use Rattle.circ_files.specs.TheoryFile.{ReadsTheory, TheoryRefusal, TakesTheory}
use Rattle.circ_status.specs.declared.status.Status.{Status}
use Rattle.circ_status.specs.declared.status.Status.TheVariants as status
use Rattle.circ_files.proofs.FileFaults.{FaultOf, fault_of, refuses, unread, out_of_memory, reads_not_refused, refused_held, holds_held}
use Rattle.circ_files.proofs.FileFaults.{unread_rose, file_fault_not_ok, file_fault_not_refused}
use Rattle.circ_files.proofs.Readings.{ReadsOnce}
use Rattle.circ_status.specs.Ending.{Stored}
use Rattle.circ_top.specs.Causes.{AtEither}
use Rattle.circ_top.specs.Command.{Upgrade, Asks}
use Rattle.circ_top.specs.Refusals.{refusal_text}
use Rattle.circ_reports.specs.Upgrade.{upgraded, upgraded_text, upgraded_file, UpgradeOutcome, no_theory, no_proof, given_anew, IsUpgraded}
use Rattle.circ_reports.specs.Upgrade.{RefusesUpgrade, theory_fault, proof_fault}
use Rattle.circ_top.proofs.Agreeing.{DueIs, file_due, AgreesWith, agreed, unread_file_with, memory_with}
use Rattle.circ_top.proofs.Proofs.{ProofsOnce, read_or_refused, proofs_once}
use Rattle.circ_top.proofs.Refused.{refused_alike}
use Rattle.circ_top.proofs.Upgraded.{differ_in_version, same_length}

module _ (theory proof : List ℕ) (before after : ShelfState) where
  pub upgrade_not_ok : (s : Status) → RefusesUpgrade theory proof before after s → s ≡ status.Ok → ⊥
  upgrade_not_ok s (theory_fault _ f) e = file_fault_not_ok 1 theory TheoryRefusal before after s e f
  upgrade_not_ok s (proof_fault _ th a f) e = file_fault_not_ok 2 proof (ProofRefusal th) before after s e f

  pub upgrade_not_refused : (s : Status) (n : ℕ) → RefusesUpgrade theory proof before after s → s ≡ status.Refused n → ⊥
  upgrade_not_refused s n (theory_fault _ f) e = file_fault_not_refused 1 theory TheoryRefusal before after s n e f
  upgrade_not_refused s n (proof_fault _ th a f) e = file_fault_not_refused 2 proof (ProofRefusal th) before after s n e f

  pub unread_upgrade : (s : Status) (n : ℕ) → RefusesUpgrade theory proof before after s → s ≡ status.ReadFault n
      → (n ≡ after.count) × AtEither (λ th. TakesTheory theory th before) theory proof (λ f name. IsUnread name before after)
  unread_upgrade s n (theory_fault _ f) e = let P : Status → Type 0 = IsFileFault 1 theory TheoryRefusal before after in let r = subst P e f in (r.0, inl r.1)
  unread_upgrade s n (proof_fault _ th a f) e =
      let P : Status → Type 0 = IsFileFault 2 proof (ProofRefusal th) before after in let r = subst P e f in (r.0, inr (th, (a, r.1)))

  pub past_upgrade : (s : Status) (file n : ℕ) → RefusesUpgrade theory proof before after s → s ≡ status.TooLong file n
      → AtEither (λ th. TakesTheory theory th before) theory proof (λ f name. (f ≡ file) × IsTooLong name n before)
  past_upgrade s file n (theory_fault _ f) e =
      let P : Status → Type 0 = IsFileFault 1 theory TheoryRefusal before after in let r = subst P e f in inl (sym r.0, r.1)
  past_upgrade s file n (proof_fault _ th a f) e =
      let P : Status → Type 0 = IsFileFault 2 proof (ProofRefusal th) before after in let r = subst P e f in inr (th, (a, (sym r.0, r.1)))

  pub unwritten_upgrade : (s : Status) (n : ℕ) → RefusesUpgrade theory proof before after s → s ≡ status.WriteFault n → ⊥
  unwritten_upgrade s n (theory_fault _ f) e = let P : Status → Type 0 = IsFileFault 1 theory TheoryRefusal before after in subst P e f
  unwritten_upgrade s n (proof_fault _ th a f) e = let P : Status → Type 0 = IsFileFault 2 proof (ProofRefusal th) before after in subst P e f

-- the text of a proof that was read is within the limit, and so is that in version 2
pub upgraded_short : (th : Theory) (p : Proof) → AreBytes (λ bytes. ReadsAsProof th bytes p) → length (proof_text (upgraded p)) ≤ 67108864
upgraded_short th p a =
    let same = same_length (proof_text p) (proof_text (upgraded p)) (differ_in_version th p a.are.proof_for) in
    let L : List ℕ → Type 0 = λ b. length b ≤ 67108864 in
    let short : length (proof_text p) ≤ 67108864 = subst L a.are.text a.short in
    omega (arith, same, short)

module _ (theory proof name : List ℕ) (before after : ShelfState) where
  pub upgraded_outcome : (text : List ℕ) (stored : Option Stored) → before.tells ≡ true → IsUpgraded theory proof name text stored before
      → UpgradeOutcome before.holds theory proof name status.Ok text stored
  upgraded_outcome text stored t a =
      let P : List ℕ → Type 0 = λ x. UpgradeOutcome before.holds theory proof name status.Ok x stored in
      let Q : Option Stored → Type 0 = λ x. UpgradeOutcome before.holds theory proof name status.Ok (upgraded_text a.th.signature a.p) x in
      subst P (sym a.text_is) (subst Q (sym a.stored_is) (given_anew a.th a.p (a.takes_theory.reads t).0 (a.takes_proof.reads t).0))

  pub due_upgrade : (words : List (List ℕ)) (s : Status) → before.tells ≡ true → Asks words (Upgrade theory proof name)
      → RefusesUpgrade theory proof before after s → DueIs words before after s (refusal_text (Upgrade theory proof name) s) None
  due_upgrade words s t i (theory_fault _ f) =
      file_due words (Upgrade theory proof name) before after 1 theory TheoryRefusal s t i f (λ r x. no_theory r x)
  due_upgrade words s t i (proof_fault _ th a f) =
      file_due words (Upgrade theory proof name) before after 2 proof (ProofRefusal th) s t i f (λ r x. no_proof r th (a.reads t).0 x)

module _ (once : ReadsOnce) (proofs : ProofsOnce) (theory proof name : List ℕ) (before after : ShelfState) (t : before.tells ≡ true) where
  theory_held : (s : Status) (text : List ℕ) (stored : Option Stored) → UpgradeOutcome before.holds theory proof name s text stored
      → before.holds theory ≡ None → ⊥
  theory_held s _ _ (no_theory _ r) e = refused_held before.holds 1 theory TheoryRefusal s r e
  theory_held s _ _ (no_proof _ u ru r) e = holds_held before.holds theory (λ b. ReadsAs b u) ru e
  theory_held _ _ _ (given_anew u q ru rq) e = holds_held before.holds theory (λ b. ReadsAs b u) ru e

  not_theory : (s : Status) (u : Theory) → ReadsTheory before.holds theory u → RefusesFile before.holds 1 theory TheoryRefusal s → ⊥
  not_theory s u ru x = reads_not_refused before.holds 1 theory TheoryRefusal (λ b. ReadsAs b u) s ru (λ p c b h n. once.either b u p c h n) x

  not_proof : (s : Status) (u : Theory) → IsWellFormed u → (q : Proof) → ReadsProof before.holds proof u q
      → RefusesFile before.holds 2 proof (ProofRefusal u) s → ⊥
  not_proof s u ok q rq x = reads_not_refused before.holds 2 proof (ProofRefusal u) (λ b. ReadsAsProof u b q) s rq (read_or_refused proofs u ok q) x

  -- the outcome where the theory file reads as this theory alone
  data Fixed (th : Theory) : Status → List ℕ → Option Stored → Type 0 where
    proof_refused : (s : Status) → RefusesFile before.holds 2 proof (ProofRefusal th) s → Fixed th s (refusal_text (Upgrade theory proof name) s) None
    both_read : (q : Proof) → ReadsProof before.holds proof th q → Fixed th status.Ok (upgraded_text th.signature q) (Some (upgraded_file name q))

  fixed : (th : Theory) → IsOnly th (ReadsTheory before.holds theory) → (s : Status) (text : List ℕ) (stored : Option Stored)
      → UpgradeOutcome before.holds theory proof name s text stored → Fixed th s text stored
  fixed th only s _ _ (no_theory _ r) = absurd (not_theory s th only.0 r)
  fixed th only s _ _ (no_proof _ u ru r) =
      let P : Theory → Type 0 = λ v. RefusesFile before.holds 2 proof (ProofRefusal v) s in proof_refused s (subst P (only.1 u ru) r)
  fixed th only _ _ _ (given_anew u q ru rq) =
      let P : Theory → Type 0 = λ v. ReadsProof before.holds proof v q in
      let R : Theory → Type 0 = λ v. Fixed th status.Ok (upgraded_text v.signature q) (Some (upgraded_file name q)) in
      subst R (sym (only.1 u ru)) (both_read q (subst P (only.1 u ru) rq))

  pub upgraded_agrees : (given : List ℕ) (other : Option Stored) → IsUpgraded theory proof name given other before → (s : Status) (text : List ℕ)
      (stored : Option Stored) → UpgradeOutcome before.holds theory proof name s text stored → AgreesWith before after s text stored status.Ok given other
  upgraded_agrees given other a s text stored c = go s text stored (fixed a.th (a.takes_theory.reads t) s text stored c)
    where
      go : (s : Status) (text : List ℕ) (stored : Option Stored) → Fixed a.th s text stored → AgreesWith before after s text stored status.Ok given other
      go s _ _ (proof_refused _ r) = absurd (not_proof s a.th a.takes_theory.well_formed a.p (a.takes_proof.reads t).0 r)
      go _ _ _ (both_read q rq) =
          let one : q ≡ a.p = (a.takes_proof.reads t).1 q rq in
          let text : List ℕ = upgraded_text a.th.signature q in
          let same : text ≡ given = ap (upgraded_text a.th.signature) one ∙ sym a.text_is in
          let P : List ℕ → Type 0 = λ x. IsLike status.Ok text status.Ok x in
          agreed status.Ok given other (subst P same (itself status.Ok text)) (a.stored_is ∙ ap (λ x. Some (upgraded_file name x)) (sym one))

  proof_held : (th : Theory) (s : Status) (text : List ℕ) (stored : Option Stored) → Fixed th s text stored → before.holds proof ≡ None → ⊥
  proof_held th s _ _ (proof_refused _ r) e = refused_held before.holds 2 proof (ProofRefusal th) s r e
  proof_held th _ _ _ (both_read q rq) e = holds_held before.holds proof (λ b. ReadsAsProof th b q) rq e

  proof_agrees : (th : Theory) → IsWellFormed th → (r s : Status) (text : List ℕ) (stored : Option Stored)
      → FaultOf 2 proof (ProofRefusal th) before after r → Fixed th s text stored
      → AgreesWith before after s text stored r (refusal_text (Upgrade theory proof name) r) None
  proof_agrees th ok r s _ _ (refuses _ x) (proof_refused _ y) =
      agreed r (refusal_text (Upgrade theory proof name) r) None
      (refused_alike (Upgrade theory proof name) before.holds 2 proof (ProofRefusal th) s r (proofs_once proofs th) y x) refl
  proof_agrees th ok r _ _ _ (refuses _ x) (both_read q rq) = absurd (not_proof r th ok q rq x)
  proof_agrees th ok _ s text stored (unread n e u) f = unread_file_with n (unread_rose proof before after (proof_held th s text stored f) u)
  proof_agrees th ok _ s text stored out_of_memory f = memory_with

  theory_agrees : (r s : Status) (text : List ℕ) (stored : Option Stored) → FaultOf 1 theory TheoryRefusal before after r
      → UpgradeOutcome before.holds theory proof name s text stored
      → AgreesWith before after s text stored r (refusal_text (Upgrade theory proof name) r) None
  theory_agrees r s _ _ (refuses _ x) (no_theory _ y) =
      agreed r (refusal_text (Upgrade theory proof name) r) None
      (refused_alike (Upgrade theory proof name) before.holds 1 theory TheoryRefusal s r once.alike y x) refl
  theory_agrees r s _ _ (refuses _ x) (no_proof _ u ru y) = absurd (not_theory r u ru x)
  theory_agrees r _ _ _ (refuses _ x) (given_anew u q ru rq) = absurd (not_theory r u ru x)
  theory_agrees _ s text stored (unread n e u) c = unread_file_with n (unread_rose theory before after (theory_held s text stored c) u)
  theory_agrees _ s text stored out_of_memory c = memory_with

  pub upgrade_agrees : (r s : Status) (text : List ℕ) (stored : Option Stored) → RefusesUpgrade theory proof before after r
      → UpgradeOutcome before.holds theory proof name s text stored
      → AgreesWith before after s text stored r (refusal_text (Upgrade theory proof name) r) None
  upgrade_agrees r s text stored (theory_fault _ f) c = theory_agrees r s text stored (fault_of 1 theory TheoryRefusal before after r t f) c
  upgrade_agrees r s text stored (proof_fault _ th a f) c =
      proof_agrees th a.well_formed r s text stored (fault_of 2 proof (ProofRefusal th) before after r t f) (fixed th (a.reads t) s text stored c)
