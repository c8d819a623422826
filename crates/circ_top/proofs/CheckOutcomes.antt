-- What `check` answers, and its outcome.
use Rattle.std.proofs.Common.{◌≡◌, ℕ, List, refl, ap, sym, ◌∙◌, subst, inl, inr, true, None}
use Rattle.circ_outer.specs.Shelf.{ShelfState}
use Rattle.circ_theory.specs.Theory.{Theory}
use Rattle.circ_theory.specs.WellFormed.{IsWellFormed}
use Rattle.circ_theory.specs.Goal.{Goal}
use Rattle.circ_proof.specs.Proof.{Proof}
use Rattle.circ_proof.specs.Accepted.{Derives, FirstFail}
use Rattle.circ_proof_text.specs.ProofText.{ReadsAsProof}
use Rattle.circ_read.specs.ReadsAs.{ReadsAs}
use Rattle.circ_top.specs.Causes.{AtEither}
use Rattle.circ_reports.specs.Check.{report_text, CheckOutcome, no_theory, no_proof, refused, accepted, IsAccepted, StepFails, RefusesCheck}
use Rattle.circ_reports.specs.Check.{theory_fault, proof_fault, step_fails}
use Rattle.circ_top.specs.Command.{Check, Asks}
use Rattle.circ_files.specs.Files.{IsOnly, RefusesFile, IsUnread, IsTooLong, IsFileFault}
use Rattle.circ_files.specs.Like.{IsLike, itself}
use Rattle.circ_top.specs.Outcome.{command}
use Rattle.circ_files.specs.ProofFile.{ReadsProof, ProofRefusal}
use Rattle.circ_status.specs.Texts.{refused_text}
use Rattle.circ_top.specs.Refusals.{refusal_text}
use Rattle.circ_files.specs.TheoryFile.{ReadsTheory, TheoryRefusal, TakesTheory}
use Rattle.circ_reports.specs.declared.report.Report.{Report}
use Rattle.circ_status.specs.declared.status.Status.{Status}
use Rattle.circ_status.specs.declared.status.Status.TheVariants as status
use Rattle.circ_files.proofs.Readings.{ReadsOnce}
use Rattle.circ_top.proofs.Agreeing.{DueIs, outcome, file_due, Agrees, alike, unread_file, memory}
use Rattle.circ_files.proofs.FileFaults.{FaultOf, fault_of, refuses, unread, out_of_memory, reads_not_refused, refused_held, holds_held}
use Rattle.circ_top.proofs.Refused.{refused_alike}
use Rattle.circ_files.proofs.FileFaults.{unread_rose, file_fault_not_ok, file_fault_not_refused}
use Rattle.circ_top.proofs.Proofs.{ProofsOnce, read_or_refused, proofs_once}

module _ (theory proof : List ℕ) (before after : ShelfState) where
  pub check_not_ok : (s : Status) → RefusesCheck theory proof before after s → s ≡ status.Ok → ⊥
  check_not_ok s (theory_fault _ f) e = file_fault_not_ok 1 theory TheoryRefusal before after s e f
  check_not_ok s (proof_fault _ th a f) e = file_fault_not_ok 2 proof (ProofRefusal th) before after s e f
  check_not_ok _ (step_fails n f) e = cc

  -- only a step that fails refuses at a step
  pub check_refused : (s : Status) (n : ℕ) → RefusesCheck theory proof before after s → s ≡ status.Refused n → StepFails theory proof n before
  check_refused s n (theory_fault _ f) e = absurd (file_fault_not_refused 1 theory TheoryRefusal before after s n e f)
  check_refused s n (proof_fault _ th a f) e = absurd (file_fault_not_refused 2 proof (ProofRefusal th) before after s n e f)
  check_refused _ n (step_fails m f) e =
      let same : m ≡ n = cc in
      let P : ℕ → Type 0 = λ k. StepFails theory proof k before in
      subst P same f

  pub unread_check : (s : Status) (n : ℕ) → RefusesCheck theory proof before after s → s ≡ status.ReadFault n
      → (n ≡ after.count) × AtEither (λ th. TakesTheory theory th before) theory proof (λ f name. IsUnread name before after)
  unread_check s n (theory_fault _ f) e = let P : Status → Type 0 = IsFileFault 1 theory TheoryRefusal before after in let r = subst P e f in (r.0, inl r.1)
  unread_check s n (proof_fault _ th a f) e =
      let P : Status → Type 0 = IsFileFault 2 proof (ProofRefusal th) before after in let r = subst P e f in (r.0, inr (th, (a, r.1)))
  unread_check _ n (step_fails m f) e = absurd (cc)

  pub past_check : (s : Status) (file n : ℕ) → RefusesCheck theory proof before after s → s ≡ status.TooLong file n
      → AtEither (λ th. TakesTheory theory th before) theory proof (λ f name. (f ≡ file) × IsTooLong name n before)
  past_check s file n (theory_fault _ f) e =
      let P : Status → Type 0 = IsFileFault 1 theory TheoryRefusal before after in let r = subst P e f in inl (sym r.0, r.1)
  past_check s file n (proof_fault _ th a f) e =
      let P : Status → Type 0 = IsFileFault 2 proof (ProofRefusal th) before after in let r = subst P e f in inr (th, (a, (sym r.0, r.1)))
  past_check _ file n (step_fails m f) e = absurd (cc)

  pub unwritten_check : (s : Status) (n : ℕ) → RefusesCheck theory proof before after s → s ≡ status.WriteFault n → ⊥
  unwritten_check s n (theory_fault _ f) e = let P : Status → Type 0 = IsFileFault 1 theory TheoryRefusal before after in subst P e f
  unwritten_check s n (proof_fault _ th a f) e = let P : Status → Type 0 = IsFileFault 2 proof (ProofRefusal th) before after in subst P e f
  unwritten_check _ n (step_fails m f) e = cc

  -- a success is the outcome
  pub accepted_outcome : (report : Report) (text : List ℕ) → before.tells ≡ true → IsAccepted report theory proof text before
      → CheckOutcome before.holds report theory proof status.Ok text
  accepted_outcome report text t a =
      let P : List ℕ → Type 0 = λ x. CheckOutcome before.holds report theory proof status.Ok x in
      subst P (sym a.proves.text_is) (accepted a.th a.p a.proves.derived (a.takes_theory.reads t).0 (a.takes_proof.reads t).0 a.proves.accepted)

pub due_check : (words : List (List ℕ)) (report : Report) (theory proof : List ℕ) (before after : ShelfState) (s : Status) → before.tells ≡ true
    → Asks words (Check report theory proof) → RefusesCheck theory proof before after s → DueIs words before after s (refusal_text (Check report theory proof) s) None
due_check words report theory proof before after s t i (theory_fault _ f) =
    file_due words (Check report theory proof) before after 1 theory TheoryRefusal s t i f (λ r x. (no_theory r x, refl))
due_check words report theory proof before after s t i (proof_fault _ th a f) =
    file_due words (Check report theory proof) before after 2 proof (ProofRefusal th) s t i f (λ r x. (no_proof r th (a.reads t).0 x, refl))
due_check words report theory proof before after _ t i (step_fails n f) =
    outcome (status.Refused n) (refused_text n) None
    (command (Check report theory proof) (status.Refused n) (refused_text n) None i
    (refused n f.th f.p (f.takes_theory.reads t).0 (f.takes_proof.reads t).0 f.fails, refl))

module _ (once : ReadsOnce) (proofs : ProofsOnce) (report : Report) (theory proof : List ℕ) (before after : ShelfState) (t : before.tells ≡ true) where
  theory_held : (s : Status) (text : List ℕ) → CheckOutcome before.holds report theory proof s text → before.holds theory ≡ None → ⊥
  theory_held s _ (no_theory _ r) e = refused_held before.holds 1 theory TheoryRefusal s r e
  theory_held s _ (no_proof _ u ru r) e = holds_held before.holds theory (λ b. ReadsAs b u) ru e
  theory_held _ _ (refused n u q ru rq f) e = holds_held before.holds theory (λ b. ReadsAs b u) ru e
  theory_held _ _ (accepted u q d ru rq a) e = holds_held before.holds theory (λ b. ReadsAs b u) ru e

  not_theory : (s : Status) (u : Theory) → ReadsTheory before.holds theory u → RefusesFile before.holds 1 theory TheoryRefusal s → ⊥
  not_theory s u ru x = reads_not_refused before.holds 1 theory TheoryRefusal (λ b. ReadsAs b u) s ru (λ p c b h n. once.either b u p c h n) x

  not_proof : (s : Status) (u : Theory) → IsWellFormed u → (q : Proof) → ReadsProof before.holds proof u q → RefusesFile before.holds 2 proof (ProofRefusal u) s → ⊥
  not_proof s u ok q rq x = reads_not_refused before.holds 2 proof (ProofRefusal u) (λ b. ReadsAsProof u b q) s rq (read_or_refused proofs u ok q) x

  -- the outcome where the theory file reads as this theory alone
  data Fixed (th : Theory) : Status → List ℕ → Type 0 where
    proof_refused : (s : Status) → RefusesFile before.holds 2 proof (ProofRefusal th) s → Fixed th s (refusal_text (Check report theory proof) s)
    step_refused : (n : ℕ) (q : Proof) → ReadsProof before.holds proof th q → FirstFail th q n → Fixed th (status.Refused n) (refused_text n)
    all_accepted : (q : Proof) (derived : List (List Goal)) → ReadsProof before.holds proof th q → Derives th q derived
        → Fixed th status.Ok (report_text report th.signature q derived)

  fixed : (th : Theory) → IsOnly th (ReadsTheory before.holds theory) → (s : Status) (text : List ℕ) → CheckOutcome before.holds report theory proof s text
      → Fixed th s text
  fixed th only s _ (no_theory _ r) = absurd (not_theory s th only.0 r)
  fixed th only s _ (no_proof _ u ru r) =
      let P : Theory → Type 0 = λ v. RefusesFile before.holds 2 proof (ProofRefusal v) s in proof_refused s (subst P (only.1 u ru) r)
  fixed th only _ _ (refused n u q ru rq f) =
      let P : Theory → Type 0 = λ v. ReadsProof before.holds proof v q in
      let Q : Theory → Type 0 = λ v. FirstFail v q n in
      step_refused n q (subst P (only.1 u ru) rq) (subst Q (only.1 u ru) f)
  fixed th only _ _ (accepted u q d ru rq a) =
      let P : Theory → Type 0 = λ v. ReadsProof before.holds proof v q in
      let Q : Theory → Type 0 = λ v. Derives v q d in
      let R : Theory → Type 0 = λ v. Fixed th status.Ok (report_text report v.signature q d) in
      subst R (sym (only.1 u ru)) (all_accepted q d (subst P (only.1 u ru) rq) (subst Q (only.1 u ru) a))

  pub accepted_agrees : (given : List ℕ) → IsAccepted report theory proof given before → (s : Status) (text : List ℕ) → CheckOutcome before.holds report theory proof s text
      → Agrees before after s text status.Ok given
  accepted_agrees given a s text c = go s text (fixed a.th (a.takes_theory.reads t) s text c)
    where
      go : (s : Status) (text : List ℕ) → Fixed a.th s text → Agrees before after s text status.Ok given
      go s _ (proof_refused _ r) = absurd (not_proof s a.th a.takes_theory.well_formed a.p (a.takes_proof.reads t).0 r)
      go _ _ (step_refused n q rq f) =
          let P : Proof → Type 0 = λ x. FirstFail a.th x n in
          absurd (proofs.not_both a.th a.p n (a.proves.derived, a.proves.accepted) (subst P ((a.takes_proof.reads t).1 q rq) f))
      go _ _ (all_accepted q d rq v) =
          let one : q ≡ a.p = (a.takes_proof.reads t).1 q rq in
          let D : Proof → Type 0 = λ x. Derives a.th x d in
          let text : List ℕ = report_text report a.th.signature q d in
          let same : text ≡ given = ap (λ x. report_text report a.th.signature x d) one
          ∙ ap (report_text report a.th.signature a.p) (proofs.one_relation a.th a.p d a.proves.derived (subst D one v) a.proves.accepted) ∙ sym a.proves.text_is in
          let P : List ℕ → Type 0 = λ x. IsLike status.Ok text status.Ok x in
          alike status.Ok given (subst P same (itself status.Ok text))

  refused_agrees : (n : ℕ) (a : StepFails theory proof n before) (s : Status) (text : List ℕ) → Fixed a.th s text
      → Agrees before after s text (status.Refused n) (refused_text n)
  refused_agrees n a s _ (proof_refused _ r) = absurd (not_proof s a.th a.takes_theory.well_formed a.p (a.takes_proof.reads t).0 r)
  refused_agrees n a _ _ (step_refused m q rq f) =
      let P : Proof → Type 0 = λ x. FirstFail a.th x m in
      let same : m ≡ n = proofs.one_failure a.th a.p m n (subst P ((a.takes_proof.reads t).1 q rq) f) a.fails in
      let Q : ℕ → Type 0 = λ k. IsLike (status.Refused m) (refused_text m) (status.Refused k) (refused_text k) in
      alike (status.Refused n) (refused_text n) (subst Q same (itself (status.Refused m) (refused_text m)))
  refused_agrees n a _ _ (all_accepted q d rq v) =
      let P : Proof → Type 0 = λ x. Derives a.th x d in
      absurd (proofs.not_both a.th a.p n (d, subst P ((a.takes_proof.reads t).1 q rq) v) a.fails)

  proof_held : (th : Theory) (s : Status) (text : List ℕ) → Fixed th s text → before.holds proof ≡ None → ⊥
  proof_held th s _ (proof_refused _ r) e = refused_held before.holds 2 proof (ProofRefusal th) s r e
  proof_held th _ _ (step_refused n q rq f) e = holds_held before.holds proof (λ b. ReadsAsProof th b q) rq e
  proof_held th _ _ (all_accepted q d rq a) e = holds_held before.holds proof (λ b. ReadsAsProof th b q) rq e

  proof_agrees : (th : Theory) → IsWellFormed th → (r s : Status) (text : List ℕ) → FaultOf 2 proof (ProofRefusal th) before after r → Fixed th s text
      → Agrees before after s text r (refusal_text (Check report theory proof) r)
  proof_agrees th ok r s _ (refuses _ x) (proof_refused _ y) =
      alike r (refusal_text (Check report theory proof) r) (refused_alike (Check report theory proof) before.holds 2 proof (ProofRefusal th) s r (proofs_once proofs th) y x)
  proof_agrees th ok r _ _ (refuses _ x) (step_refused n q rq f) = absurd (not_proof r th ok q rq x)
  proof_agrees th ok r _ _ (refuses _ x) (all_accepted q d rq a) = absurd (not_proof r th ok q rq x)
  proof_agrees th ok _ s text (unread n e u) f = unread_file n (unread_rose proof before after (proof_held th s text f) u)
  proof_agrees th ok _ s text out_of_memory f = memory

  theory_agrees : (r s : Status) (text : List ℕ) → FaultOf 1 theory TheoryRefusal before after r → CheckOutcome before.holds report theory proof s text
      → Agrees before after s text r (refusal_text (Check report theory proof) r)
  theory_agrees r s _ (refuses _ x) (no_theory _ y) =
      alike r (refusal_text (Check report theory proof) r) (refused_alike (Check report theory proof) before.holds 1 theory TheoryRefusal s r once.alike y x)
  theory_agrees r s _ (refuses _ x) (no_proof _ u ru y) = absurd (not_theory r u ru x)
  theory_agrees r _ _ (refuses _ x) (refused n u q ru rq f) = absurd (not_theory r u ru x)
  theory_agrees r _ _ (refuses _ x) (accepted u q d ru rq a) = absurd (not_theory r u ru x)
  theory_agrees _ s text (unread n e u) c = unread_file n (unread_rose theory before after (theory_held s text c) u)
  theory_agrees _ s text out_of_memory c = memory

  pub check_agrees : (r s : Status) (text : List ℕ) → RefusesCheck theory proof before after r → CheckOutcome before.holds report theory proof s text
      → Agrees before after s text r (refusal_text (Check report theory proof) r)
  check_agrees r s text (theory_fault _ f) c = theory_agrees r s text (fault_of 1 theory TheoryRefusal before after r t f) c
  check_agrees r s text (proof_fault _ th a f) c =
      proof_agrees th a.well_formed r s text (fault_of 2 proof (ProofRefusal th) before after r t f) (fixed th (a.reads t) s text c)
  check_agrees _ s text (step_fails n f) c = refused_agrees n f s text (fixed f.th (f.takes_theory.reads t) s text c)
