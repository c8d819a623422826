-- What `expand` answers, and its outcome.
use Rattle.std.proofs.Common.{◌≡◌, ℕ, List, refl, ap, sym, ◌∙◌, subst, inl, inr, true, Option, Some, None}
use Rattle.std.proofs.lemmas.Option.{same_Some}
use Rattle.circ_outer.specs.Shelf.{ShelfState}
use Rattle.circ_theory.specs.Theory.{Theory}
use Rattle.circ_theory.specs.WellFormed.{IsWellFormed}
use Rattle.circ_proof.specs.Proof.{Proof}
use Rattle.circ_proof.specs.Accepted.{Accepted, FirstFail}
use Rattle.circ_read.specs.ReadsAs.{ReadsAs}
use Rattle.circ_read.specs.declared.cause.Cause.{Cause}
use Rattle.circ_read.specs.declared.cause.Cause.TheVariants as cause
use Rattle.circ_files.specs.Files.{IsOnly, RefusesFile, IsUnread, IsTooLong, IsFileFault}
use Rattle.circ_files.specs.Like.{IsLike, IsLikeCause, same_cause, itself}
use Rattle.circ_files.specs.ProofFile.{ProofRefusal}
use Rattle.circ_status.specs.Texts.{refused_text}
use Rattle.circ_files.specs.TheoryFile.{ReadsTheory, TheoryRefusal, TakesTheory}
use Rattle.circ_status.specs.declared.status.Status.{Status}
use Rattle.circ_status.specs.declared.status.Status.TheVariants as status
use Rattle.circ_files.proofs.FileFaults.{FaultOf, IsOneWay, fault_of, refuses, unread, out_of_memory, reads_not_refused, refused_held, holds_held}
use Rattle.circ_files.proofs.FileFaults.{unread_rose, file_fault_not_ok, file_fault_not_refused}
use Rattle.circ_files.proofs.Readings.{ReadsOnce}
use Rattle.circ_reports.specs.Check.{StepFails}
use Rattle.circ_reports.specs.Expand.{expanded, Writes, EndsAs, ExpandOutcome, no_theory, no_proof, refused, not_written, written_out}
use Rattle.circ_reports.specs.Expand.{IsExpanded, GivesNone, step_fails, none_written, no_memory, RefusesExpand, theory_fault, proof_fault, none_given}
use Rattle.circ_reports.specs.PlainProof as plain
use Rattle.circ_reports.specs.PlainProof.{left_out, ReadsAsPlainProof, ReadsPlainProof, PlainProofRefusal, has_condition}
use Rattle.circ_reports.proofs.ExpandEnds.{not_end, one_text, one_none, not_both}
use Rattle.circ_reports.proofs.PlainProofs.{plain_reads}
use Rattle.circ_top.specs.Causes.{AtEither}
use Rattle.circ_top.specs.Command.{Expand, Asks}
use Rattle.circ_top.specs.Outcome.{command}
use Rattle.circ_top.specs.Refusals.{refusal_text}
use Rattle.circ_top.proofs.Agreeing.{DueIs, outcome, no_memory_left, file_due, Agrees, alike, unread_file, memory}
use Rattle.circ_top.proofs.Proofs.{ProofsOnce, read_or_refused, proofs_once}
use Rattle.circ_top.proofs.Refused.{refused_alike}

-- ---- proofs for a command that leaves conditions out are read in one way

module _ (proofs : ProofsOnce) where
  plain_or_refused : (th : Theory) → IsWellFormed th → (p : Proof) (place : ℕ) (c : Cause) (bytes : List ℕ) → ReadsAsPlainProof th bytes p
      → PlainProofRefusal th place c bytes → ⊥
  plain_or_refused th ok p place c bytes r (plain.no_proof _ _ _ f) = read_or_refused proofs th ok p place c bytes r.reads f
  plain_or_refused th ok p _ _ bytes r (has_condition _ q word rq some) =
      let P : Proof → Type 0 = λ x. left_out x ≡ None in
      let nothing = subst P (proofs.one_proof th ok bytes p q r.reads rq) r.plain in
      let never : None ≡ Some word = sym nothing ∙ some in cc

  plain_once : (th : Theory) → IsWellFormed th → IsOneWay (PlainProofRefusal th)
  plain_once th ok p q c d bytes (plain.no_proof _ _ _ f) (plain.no_proof _ _ _ g) = proofs_once proofs th p q c d bytes f g
  plain_once th ok p _ c _ bytes (plain.no_proof _ _ _ f) (has_condition _ y word ry some) = absurd (read_or_refused proofs th ok y p c bytes ry f)
  plain_once th ok _ q _ d bytes (has_condition _ x word rx some) (plain.no_proof _ _ _ g) = absurd (read_or_refused proofs th ok x q d bytes rx g)
  plain_once th ok _ _ _ _ bytes (has_condition _ x v rx some) (has_condition _ y w ry other) =
      let P : Proof → Type 0 = λ z. left_out z ≡ Some v in
      let same : v ≡ w = same_Some v w (sym (subst P (proofs.one_proof th ok bytes x y rx ry) some) ∙ other) in
      let Q : List ℕ → Type 0 = λ z. IsLikeCause (cause.LeftOut v) (cause.LeftOut z) in
      (refl, subst Q same (same_cause (cause.LeftOut v)))

-- ---- why it is refused

module _ (theory proof : List ℕ) (goal : ℕ) (ks : List ℕ) (before after : ShelfState) where
  pub expand_not_ok : (s : Status) → RefusesExpand theory proof goal ks before after s → s ≡ status.Ok → ⊥
  expand_not_ok s (theory_fault _ f) e = file_fault_not_ok 1 theory TheoryRefusal before after s e f
  expand_not_ok s (proof_fault _ th a f) e = file_fault_not_ok 2 proof (PlainProofRefusal th) before after s e f
  expand_not_ok _ (none_given _ th p a b (step_fails n f)) e = cc
  expand_not_ok s (none_given _ th p a b (none_written _ acc x)) e = not_end th p goal ks s status.Ok x e (λ y. y)
  expand_not_ok _ (none_given _ th p a b no_memory) e = cc

  -- only a step that fails refuses at a step
  pub expand_refused : (s : Status) (n : ℕ) → RefusesExpand theory proof goal ks before after s → s ≡ status.Refused n → StepFails theory proof n before
  expand_refused s n (theory_fault _ f) e = absurd (file_fault_not_refused 1 theory TheoryRefusal before after s n e f)
  expand_refused s n (proof_fault _ th a f) e = absurd (file_fault_not_refused 2 proof (PlainProofRefusal th) before after s n e f)
  expand_refused _ n (none_given _ th p a b (step_fails m f)) e =
      let same : m ≡ n = cc in
      let P : ℕ → Type 0 = λ k. FirstFail th p k in
      record { th = th; p = p; fails = subst P same f; takes_theory = a; takes_proof = b.takes }
  expand_refused s n (none_given _ th p a b (none_written _ acc x)) e = absurd (not_end th p goal ks s (status.Refused n) x e (λ y. y))
  expand_refused _ n (none_given _ th p a b no_memory) e = absurd (cc)

  pub unread_expand : (s : Status) (n : ℕ) → RefusesExpand theory proof goal ks before after s → s ≡ status.ReadFault n
      → (n ≡ after.count) × AtEither (λ th. TakesTheory theory th before) theory proof (λ f name. IsUnread name before after)
  unread_expand s n (theory_fault _ f) e = let P : Status → Type 0 = IsFileFault 1 theory TheoryRefusal before after in let r = subst P e f in (r.0, inl r.1)
  unread_expand s n (proof_fault _ th a f) e =
      let P : Status → Type 0 = IsFileFault 2 proof (PlainProofRefusal th) before after in let r = subst P e f in (r.0, inr (th, (a, r.1)))
  unread_expand _ n (none_given _ th p a b (step_fails m f)) e = absurd (cc)
  unread_expand s n (none_given _ th p a b (none_written _ acc x)) e = absurd (not_end th p goal ks s (status.ReadFault n) x e (λ y. y))
  unread_expand _ n (none_given _ th p a b no_memory) e = absurd (cc)

  pub past_expand : (s : Status) (file n : ℕ) → RefusesExpand theory proof goal ks before after s → s ≡ status.TooLong file n
      → AtEither (λ th. TakesTheory theory th before) theory proof (λ f name. (f ≡ file) × IsTooLong name n before)
  past_expand s file n (theory_fault _ f) e =
      let P : Status → Type 0 = IsFileFault 1 theory TheoryRefusal before after in let r = subst P e f in inl (sym r.0, r.1)
  past_expand s file n (proof_fault _ th a f) e =
      let P : Status → Type 0 = IsFileFault 2 proof (PlainProofRefusal th) before after in let r = subst P e f in inr (th, (a, (sym r.0, r.1)))
  past_expand _ file n (none_given _ th p a b (step_fails m f)) e = absurd (cc)
  past_expand s file n (none_given _ th p a b (none_written _ acc x)) e = absurd (not_end th p goal ks s (status.TooLong file n) x e (λ y. y))
  past_expand _ file n (none_given _ th p a b no_memory) e = absurd (cc)

  pub unwritten_expand : (s : Status) (n : ℕ) → RefusesExpand theory proof goal ks before after s → s ≡ status.WriteFault n → ⊥
  unwritten_expand s n (theory_fault _ f) e = let P : Status → Type 0 = IsFileFault 1 theory TheoryRefusal before after in subst P e f
  unwritten_expand s n (proof_fault _ th a f) e = let P : Status → Type 0 = IsFileFault 2 proof (PlainProofRefusal th) before after in subst P e f
  unwritten_expand _ n (none_given _ th p a b (step_fails m f)) e = cc
  unwritten_expand s n (none_given _ th p a b (none_written _ acc x)) e = not_end th p goal ks s (status.WriteFault n) x e (λ y. y)
  unwritten_expand _ n (none_given _ th p a b no_memory) e = cc

  -- a success is the outcome
  pub expanded_outcome : (text : List ℕ) → before.tells ≡ true → IsExpanded theory proof goal ks text before
      → ExpandOutcome before.holds theory proof goal ks status.Ok text
  expanded_outcome text t a = written_out text a.th a.p (a.takes_theory.reads t).0 (plain_reads proof a.th a.p before a.takes_proof t).0 a.expands.accepted a.expands.writes

pub due_expand : (words : List (List ℕ)) (theory proof : List ℕ) (goal : ℕ) (ks : List ℕ) (before after : ShelfState) (s : Status) → before.tells ≡ true
    → Asks words (Expand theory proof goal ks) → RefusesExpand theory proof goal ks before after s
    → DueIs words before after s (refusal_text (Expand theory proof goal ks) s) None
due_expand words theory proof goal ks before after s t i (theory_fault _ f) =
    file_due words (Expand theory proof goal ks) before after 1 theory TheoryRefusal s t i f (λ r x. (no_theory r x, refl))
due_expand words theory proof goal ks before after s t i (proof_fault _ th a f) =
    file_due words (Expand theory proof goal ks) before after 2 proof (PlainProofRefusal th) s t i f (λ r x. (no_proof r th (a.reads t).0 x, refl))
due_expand words theory proof goal ks before after _ t i (none_given _ th p a b (step_fails n f)) =
    outcome (status.Refused n) (refused_text n) None
    (command (Expand theory proof goal ks) (status.Refused n) (refused_text n) None i (refused n th p (a.reads t).0 (plain_reads proof th p before b t).0 f, refl))
due_expand words theory proof goal ks before after s t i (none_given _ th p a b (none_written _ acc x)) =
    let text : List ℕ = refusal_text (Expand theory proof goal ks) s in
    outcome s text None (command (Expand theory proof goal ks) s text None i (not_written s th p (a.reads t).0 (plain_reads proof th p before b t).0 acc x, refl))
due_expand words theory proof goal ks before after _ t i (none_given _ th p a b no_memory) = no_memory_left

module _ (once : ReadsOnce) (proofs : ProofsOnce) (theory proof : List ℕ) (goal : ℕ) (ks : List ℕ) (before after : ShelfState) (t : before.tells ≡ true) where
  theory_held : (s : Status) (text : List ℕ) → ExpandOutcome before.holds theory proof goal ks s text → before.holds theory ≡ None → ⊥
  theory_held s _ (no_theory _ r) e = refused_held before.holds 1 theory TheoryRefusal s r e
  theory_held s _ (no_proof _ u ru r) e = holds_held before.holds theory (λ b. ReadsAs b u) ru e
  theory_held _ _ (refused n u q ru rq f) e = holds_held before.holds theory (λ b. ReadsAs b u) ru e
  theory_held _ _ (not_written s u q ru rq a x) e = holds_held before.holds theory (λ b. ReadsAs b u) ru e
  theory_held _ _ (written_out text u q ru rq a x) e = holds_held before.holds theory (λ b. ReadsAs b u) ru e

  not_theory : (s : Status) (u : Theory) → ReadsTheory before.holds theory u → RefusesFile before.holds 1 theory TheoryRefusal s → ⊥
  not_theory s u ru x = reads_not_refused before.holds 1 theory TheoryRefusal (λ b. ReadsAs b u) s ru (λ p c b h n. once.either b u p c h n) x

  not_proof : (s : Status) (u : Theory) → IsWellFormed u → (q : Proof) → ReadsPlainProof before.holds proof u q
      → RefusesFile before.holds 2 proof (PlainProofRefusal u) s → ⊥
  not_proof s u ok q rq x =
      reads_not_refused before.holds 2 proof (PlainProofRefusal u) (λ b. ReadsAsPlainProof u b q) s rq (plain_or_refused proofs u ok q) x

  -- the outcome where the theory file reads as this theory alone
  data Fixed (th : Theory) : Status → List ℕ → Type 0 where
    proof_refused : (s : Status) → RefusesFile before.holds 2 proof (PlainProofRefusal th) s → Fixed th s (refusal_text (Expand theory proof goal ks) s)
    step_refused : (n : ℕ) (q : Proof) → ReadsPlainProof before.holds proof th q → FirstFail th q n → Fixed th (status.Refused n) (refused_text n)
    not_done : (s : Status) (q : Proof) → ReadsPlainProof before.holds proof th q → Accepted th q → EndsAs (expanded th q goal ks) s
        → Fixed th s (refusal_text (Expand theory proof goal ks) s)
    done : (text : List ℕ) (q : Proof) → ReadsPlainProof before.holds proof th q → Accepted th q → Writes th (expanded th q goal ks) text
        → Fixed th status.Ok text

  fixed : (th : Theory) → IsOnly th (ReadsTheory before.holds theory) → (s : Status) (text : List ℕ) → ExpandOutcome before.holds theory proof goal ks s text
      → Fixed th s text
  fixed th only s _ (no_theory _ r) = absurd (not_theory s th only.0 r)
  fixed th only s _ (no_proof _ u ru r) =
      let P : Theory → Type 0 = λ v. RefusesFile before.holds 2 proof (PlainProofRefusal v) s in proof_refused s (subst P (only.1 u ru) r)
  fixed th only _ _ (refused n u q ru rq f) =
      let P : Theory → Type 0 = λ v. ReadsPlainProof before.holds proof v q in
      let Q : Theory → Type 0 = λ v. FirstFail v q n in
      step_refused n q (subst P (only.1 u ru) rq) (subst Q (only.1 u ru) f)
  fixed th only _ _ (not_written s u q ru rq a x) =
      let P : Theory → Type 0 = λ v. ReadsPlainProof before.holds proof v q in
      let A : Theory → Type 0 = λ v. Accepted v q in
      let Q : Theory → Type 0 = λ v. EndsAs (expanded v q goal ks) s in
      not_done s q (subst P (only.1 u ru) rq) (subst A (only.1 u ru) a) (subst Q (only.1 u ru) x)
  fixed th only _ _ (written_out text u q ru rq a x) =
      let P : Theory → Type 0 = λ v. ReadsPlainProof before.holds proof v q in
      let A : Theory → Type 0 = λ v. Accepted v q in
      let Q : Theory → Type 0 = λ v. Writes v (expanded v q goal ks) text in
      done text q (subst P (only.1 u ru) rq) (subst A (only.1 u ru) a) (subst Q (only.1 u ru) x)

  proof_held : (th : Theory) (s : Status) (text : List ℕ) → Fixed th s text → before.holds proof ≡ None → ⊥
  proof_held th s _ (proof_refused _ r) e = refused_held before.holds 2 proof (PlainProofRefusal th) s r e
  proof_held th _ _ (step_refused n q rq f) e = holds_held before.holds proof (λ b. ReadsAsPlainProof th b q) rq e
  proof_held th _ _ (not_done s q rq a x) e = holds_held before.holds proof (λ b. ReadsAsPlainProof th b q) rq e
  proof_held th _ _ (done text q rq a x) e = holds_held before.holds proof (λ b. ReadsAsPlainProof th b q) rq e

  -- the outcome where the proof file reads as this proof alone too
  data Settled (th : Theory) (p : Proof) : Status → List ℕ → Type 0 where
    fails : (n : ℕ) → FirstFail th p n → Settled th p (status.Refused n) (refused_text n)
    ends : (s : Status) → Accepted th p → EndsAs (expanded th p goal ks) s → Settled th p s (refusal_text (Expand theory proof goal ks) s)
    writes : (text : List ℕ) → Accepted th p → Writes th (expanded th p goal ks) text → Settled th p status.Ok text

  settled : (th : Theory) → IsWellFormed th → (p : Proof) → IsOnly p (ReadsPlainProof before.holds proof th) → (s : Status) (text : List ℕ) → Fixed th s text
      → Settled th p s text
  settled th ok p only s _ (proof_refused _ r) = absurd (not_proof s th ok p only.0 r)
  settled th ok p only _ _ (step_refused n q rq f) = let P : Proof → Type 0 = λ x. FirstFail th x n in fails n (subst P (only.1 q rq) f)
  settled th ok p only _ _ (not_done s q rq a x) =
      let A : Proof → Type 0 = λ y. Accepted th y in
      let Q : Proof → Type 0 = λ y. EndsAs (expanded th y goal ks) s in
      ends s (subst A (only.1 q rq) a) (subst Q (only.1 q rq) x)
  settled th ok p only _ _ (done text q rq a x) =
      let A : Proof → Type 0 = λ y. Accepted th y in
      let Q : Proof → Type 0 = λ y. Writes th (expanded th y goal ks) text in
      writes text (subst A (only.1 q rq) a) (subst Q (only.1 q rq) x)

  pub expanded_agrees : (given : List ℕ) → IsExpanded theory proof goal ks given before → (s : Status) (text : List ℕ)
      → ExpandOutcome before.holds theory proof goal ks s text → Agrees before after s text status.Ok given
  expanded_agrees given a s text c =
      go s text (settled a.th a.takes_theory.well_formed a.p (plain_reads proof a.th a.p before a.takes_proof t) s text (fixed a.th (a.takes_theory.reads t) s text c))
    where
      go : (s : Status) (text : List ℕ) → Settled a.th a.p s text → Agrees before after s text status.Ok given
      go _ _ (fails n f) = absurd (proofs.not_both a.th a.p n a.expands.accepted f)
      go _ _ (ends s acc x) = absurd (not_both a.th (expanded a.th a.p goal ks) given s a.expands.writes x)
      go _ _ (writes text acc x) =
          let P : List ℕ → Type 0 = λ y. IsLike status.Ok text status.Ok y in
          alike status.Ok given (subst P (one_text a.th (expanded a.th a.p goal ks) text given x a.expands.writes) (itself status.Ok text))

  none_agrees : (th : Theory) (p : Proof) (r s : Status) (text : List ℕ) → GivesNone th p goal ks r → Settled th p s text
      → Agrees before after s text r (refusal_text (Expand theory proof goal ks) r)
  none_agrees th p _ _ _ (step_fails n f) (fails m g) =
      let same : m ≡ n = proofs.one_failure th p m n g f in
      let Q : ℕ → Type 0 = λ k. IsLike (status.Refused m) (refused_text m) (status.Refused k) (refused_text k) in
      alike (status.Refused n) (refused_text n) (subst Q same (itself (status.Refused m) (refused_text m)))
  none_agrees th p _ _ _ (step_fails n f) (ends s a x) = absurd (proofs.not_both th p n a f)
  none_agrees th p _ _ _ (step_fails n f) (writes text a x) = absurd (proofs.not_both th p n a f)
  none_agrees th p _ _ _ (none_written r a x) (fails m g) = absurd (proofs.not_both th p m a g)
  none_agrees th p _ _ _ (none_written r a x) (ends s b y) =
      let same : s ≡ r = one_none (expanded th p goal ks) s r y x in
      let Q : Status → Type 0 = λ z. IsLike s (refusal_text (Expand theory proof goal ks) s) z (refusal_text (Expand theory proof goal ks) z) in
      alike r (refusal_text (Expand theory proof goal ks) r) (subst Q same (itself s (refusal_text (Expand theory proof goal ks) s)))
  none_agrees th p _ _ _ (none_written r a x) (writes text b y) = absurd (not_both th (expanded th p goal ks) text r y x)
  none_agrees th p _ s text no_memory f = memory

  proof_agrees : (th : Theory) → IsWellFormed th → (r s : Status) (text : List ℕ) → FaultOf 2 proof (PlainProofRefusal th) before after r → Fixed th s text
      → Agrees before after s text r (refusal_text (Expand theory proof goal ks) r)
  proof_agrees th ok r s _ (refuses _ x) (proof_refused _ y) =
      alike r (refusal_text (Expand theory proof goal ks) r)
      (refused_alike (Expand theory proof goal ks) before.holds 2 proof (PlainProofRefusal th) s r (plain_once proofs th ok) y x)
  proof_agrees th ok r _ _ (refuses _ x) (step_refused n q rq f) = absurd (not_proof r th ok q rq x)
  proof_agrees th ok r _ _ (refuses _ x) (not_done s q rq a y) = absurd (not_proof r th ok q rq x)
  proof_agrees th ok r _ _ (refuses _ x) (done text q rq a y) = absurd (not_proof r th ok q rq x)
  proof_agrees th ok _ s text (unread n e u) f = unread_file n (unread_rose proof before after (proof_held th s text f) u)
  proof_agrees th ok _ s text out_of_memory f = memory

  theory_agrees : (r s : Status) (text : List ℕ) → FaultOf 1 theory TheoryRefusal before after r → ExpandOutcome before.holds theory proof goal ks s text
      → Agrees before after s text r (refusal_text (Expand theory proof goal ks) r)
  theory_agrees r s _ (refuses _ x) (no_theory _ y) =
      alike r (refusal_text (Expand theory proof goal ks) r)
      (refused_alike (Expand theory proof goal ks) before.holds 1 theory TheoryRefusal s r once.alike y x)
  theory_agrees r s _ (refuses _ x) (no_proof _ u ru y) = absurd (not_theory r u ru x)
  theory_agrees r _ _ (refuses _ x) (refused n u q ru rq f) = absurd (not_theory r u ru x)
  theory_agrees r _ _ (refuses _ x) (not_written s u q ru rq a y) = absurd (not_theory r u ru x)
  theory_agrees r _ _ (refuses _ x) (written_out text u q ru rq a y) = absurd (not_theory r u ru x)
  theory_agrees _ s text (unread n e u) c = unread_file n (unread_rose theory before after (theory_held s text c) u)
  theory_agrees _ s text out_of_memory c = memory

  pub expand_agrees : (r s : Status) (text : List ℕ) → RefusesExpand theory proof goal ks before after r → ExpandOutcome before.holds theory proof goal ks s text
      → Agrees before after s text r (refusal_text (Expand theory proof goal ks) r)
  expand_agrees r s text (theory_fault _ f) c = theory_agrees r s text (fault_of 1 theory TheoryRefusal before after r t f) c
  expand_agrees r s text (proof_fault _ th a f) c =
      proof_agrees th a.well_formed r s text (fault_of 2 proof (PlainProofRefusal th) before after r t f) (fixed th (a.reads t) s text c)
  expand_agrees r s text (none_given _ th p a b x) c =
      none_agrees th p r s text x (settled th a.well_formed p (plain_reads proof th p before b t) s text (fixed th (a.reads t) s text c))
