-- What `reduce` answers, and its outcome.
use Rattle.std.proofs.Common.{◌≡◌, ◌-◌, ℕ, List, refl, ap₂, sym, ◌∙◌, subst, inl, inr, true, None}
use Rattle.circ_outer.specs.Shelf.{ShelfState}
use Rattle.circ_term.specs.Tree.{Tree}
use Rattle.circ_theory.specs.Theory.{Theory}
use Rattle.circ_script.specs.Script.{Script}
use Rattle.circ_script.specs.ReadsAsScript.{ReadsAsScript}
use Rattle.circ_script.specs.declared.job.Job.TheVariants as job
use Rattle.circ_top.specs.Causes.{AtEither}
use Rattle.circ_top.specs.Command.{Reduce, Asks}
use Rattle.circ_files.specs.Files.{IsOnly, RefusesFile, IsUnread, IsTooLong, IsFileFault}
use Rattle.circ_files.specs.Like.{IsLike, itself}
use Rattle.circ_top.specs.Outcome.{command}
use Rattle.circ_reports.specs.Reduce.{Results, reduced, EndsWith, Ends, results_text, ReduceOutcome, no_theory, no_script, not_reduced, all_reduced}
use Rattle.circ_reports.specs.Reduce.{IsReduced, TermsEnd, RefusesReduce, theory_fault, script_fault, term_ends}
use Rattle.circ_files.specs.ScriptFile.{ReadsScript, TakesScript, ScriptRefusal}
use Rattle.circ_top.specs.Refusals.{refusal_text}
use Rattle.circ_read.specs.ReadsAs.{ReadsAs}
use Rattle.circ_files.specs.TheoryFile.{ReadsTheory, TakesTheory, TheoryRefusal}
use Rattle.circ_status.specs.declared.status.Status.{Status}
use Rattle.circ_status.specs.declared.status.Status.TheVariants as status
use Rattle.circ_files.proofs.Readings.{ReadsOnce}
use Rattle.circ_top.proofs.Agreeing.{DueIs, outcome, file_due, Agrees, alike, unread_file, memory}
use Rattle.circ_reports.proofs.Ends.{no_end, one_end, no_early_end}
use Rattle.circ_files.proofs.FileFaults.{FaultOf, fault_of, refuses, unread, out_of_memory, reads_not_refused, refused_held, holds_held}
use Rattle.circ_top.proofs.Refused.{refused_alike}
use Rattle.circ_files.proofs.FileFaults.{unread_rose, file_fault_not_ok, file_fault_not_refused}
use Rattle.circ_files.proofs.Scripts.{ScriptsOnce}

module _ (budget : ℕ) (theory script : List ℕ) (before after : ShelfState) where
  pub reduce_not_ok : (s : Status) → RefusesReduce budget theory script before after s → s ≡ status.Ok → ⊥
  reduce_not_ok s (theory_fault _ f) e = file_fault_not_ok 1 theory TheoryRefusal before after s e f
  reduce_not_ok s (script_fault _ th a f) e = file_fault_not_ok 2 script (ScriptRefusal th job.Reduce) before after s e f
  reduce_not_ok s (term_ends _ f) e = no_end budget (reduced f.th budget f.sc.terms) s status.Ok (λ x. x) f.ends e

  pub reduce_not_refused : (s : Status) (n : ℕ) → RefusesReduce budget theory script before after s → s ≡ status.Refused n → ⊥
  reduce_not_refused s n (theory_fault _ f) e = file_fault_not_refused 1 theory TheoryRefusal before after s n e f
  reduce_not_refused s n (script_fault _ th a f) e = file_fault_not_refused 2 script (ScriptRefusal th job.Reduce) before after s n e f
  reduce_not_refused s n (term_ends _ f) e = no_end budget (reduced f.th budget f.sc.terms) s (status.Refused n) (λ x. x) f.ends e

  pub unread_reduce : (s : Status) (n : ℕ) → RefusesReduce budget theory script before after s → s ≡ status.ReadFault n
      → (n ≡ after.count) × AtEither (λ th. TakesTheory theory th before) theory script (λ f name. IsUnread name before after)
  unread_reduce s n (theory_fault _ f) e = let P : Status → Type 0 = IsFileFault 1 theory TheoryRefusal before after in let r = subst P e f in (r.0, inl r.1)
  unread_reduce s n (script_fault _ th a f) e =
      let P : Status → Type 0 = IsFileFault 2 script (ScriptRefusal th job.Reduce) before after in let r = subst P e f in (r.0, inr (th, (a, r.1)))
  unread_reduce s n (term_ends _ f) e = absurd (no_end budget (reduced f.th budget f.sc.terms) s (status.ReadFault n) (λ x. x) f.ends e)

  pub past_reduce : (s : Status) (file n : ℕ) → RefusesReduce budget theory script before after s → s ≡ status.TooLong file n
      → AtEither (λ th. TakesTheory theory th before) theory script (λ f name. (f ≡ file) × IsTooLong name n before)
  past_reduce s file n (theory_fault _ f) e =
      let P : Status → Type 0 = IsFileFault 1 theory TheoryRefusal before after in let r = subst P e f in inl (sym r.0, r.1)
  past_reduce s file n (script_fault _ th a f) e =
      let P : Status → Type 0 = IsFileFault 2 script (ScriptRefusal th job.Reduce) before after in let r = subst P e f in inr (th, (a, (sym r.0, r.1)))
  past_reduce s file n (term_ends _ f) e = absurd (no_end budget (reduced f.th budget f.sc.terms) s (status.TooLong file n) (λ x. x) f.ends e)

  pub unwritten_reduce : (s : Status) (n : ℕ) → RefusesReduce budget theory script before after s → s ≡ status.WriteFault n → ⊥
  unwritten_reduce s n (theory_fault _ f) e = let P : Status → Type 0 = IsFileFault 1 theory TheoryRefusal before after in subst P e f
  unwritten_reduce s n (script_fault _ th a f) e = let P : Status → Type 0 = IsFileFault 2 script (ScriptRefusal th job.Reduce) before after in subst P e f
  unwritten_reduce s n (term_ends _ f) e = no_end budget (reduced f.th budget f.sc.terms) s (status.WriteFault n) (λ x. x) f.ends e

  -- a success is the outcome
  pub reduced_outcome : (text : List ℕ) → before.tells ≡ true → IsReduced budget theory script text before
      → ReduceOutcome before.holds budget theory script status.Ok text
  reduced_outcome text t a =
      let P : List ℕ → Type 0 = λ x. ReduceOutcome before.holds budget theory script status.Ok x in
      subst P (sym a.reduces.text_is) (all_reduced a.th a.sc a.reduces.results a.reduces.left (a.takes_theory.reads t).0 (a.takes_script.reads t).0 a.reduces.all)

  pub due_reduce : (words : List (List ℕ)) (s : Status) → before.tells ≡ true → Asks words (Reduce budget theory script)
      → RefusesReduce budget theory script before after s → DueIs words before after s (refusal_text (Reduce budget theory script) s) None
  due_reduce words s t i (theory_fault _ f) =
      file_due words (Reduce budget theory script) before after 1 theory TheoryRefusal s t i f (λ r x. (no_theory r x, refl))
  due_reduce words s t i (script_fault _ th a f) =
      file_due words (Reduce budget theory script) before after 2 script (ScriptRefusal th job.Reduce) s t i f (λ r x. (no_script r th (a.reads t).0 x, refl))
  due_reduce words s t i (term_ends _ f) =
      let text : List ℕ = refusal_text (Reduce budget theory script) s in
      outcome s text None
      (command (Reduce budget theory script) s text None i (not_reduced s f.th f.sc (f.takes_theory.reads t).0 (f.takes_script.reads t).0 f.ends, refl))

module _ (once : ReadsOnce) (scripts : ScriptsOnce) (budget : ℕ) (theory script : List ℕ) (before after : ShelfState) (t : before.tells ≡ true) where
  theory_held : (s : Status) (text : List ℕ) → ReduceOutcome before.holds budget theory script s text → before.holds theory ≡ None → ⊥
  theory_held s _ (no_theory _ r) e = refused_held before.holds 1 theory TheoryRefusal s r e
  theory_held s _ (no_script _ u ru r) e = holds_held before.holds theory (λ b. ReadsAs b u) ru e
  theory_held s _ (not_reduced _ u q ru rq f) e = holds_held before.holds theory (λ b. ReadsAs b u) ru e
  theory_held _ _ (all_reduced u q rs n ru rq a) e = holds_held before.holds theory (λ b. ReadsAs b u) ru e

  not_theory : (s : Status) (u : Theory) → ReadsTheory before.holds theory u → RefusesFile before.holds 1 theory TheoryRefusal s → ⊥
  not_theory s u ru x = reads_not_refused before.holds 1 theory TheoryRefusal (λ b. ReadsAs b u) s ru (λ p c b h n. once.either b u p c h n) x

  not_script : (s : Status) (u : Theory) (q : Script) → ReadsScript before.holds script u job.Reduce q
      → RefusesFile before.holds 2 script (ScriptRefusal u job.Reduce) s → ⊥
  not_script s u q rq x =
      reads_not_refused before.holds 2 script (ScriptRefusal u job.Reduce) (λ b. ReadsAsScript u job.Reduce b q) s rq
      (λ p c b h n. scripts.either u job.Reduce b q p c h n) x

  -- the outcome where the theory file reads as this theory alone
  data Fixed (th : Theory) : Status → List ℕ → Type 0 where
    script_refused : (s : Status) → RefusesFile before.holds 2 script (ScriptRefusal th job.Reduce) s → Fixed th s (refusal_text (Reduce budget theory script) s)
    terms_end : (s : Status) (q : Script) → ReadsScript before.holds script th job.Reduce q → EndsWith budget (reduced th budget q.terms) s
        → Fixed th s (refusal_text (Reduce budget theory script) s)
    terms_done : (q : Script) (results : List Tree) (left : ℕ) → ReadsScript before.holds script th job.Reduce q
        → reduced th budget q.terms ≡ Results results left → Fixed th status.Ok (results_text th.signature results (budget - left))

  fixed : (th : Theory) → IsOnly th (ReadsTheory before.holds theory) → (s : Status) (text : List ℕ)
      → ReduceOutcome before.holds budget theory script s text → Fixed th s text
  fixed th only s _ (no_theory _ r) = absurd (not_theory s th only.0 r)
  fixed th only s _ (no_script _ u ru r) =
      let P : Theory → Type 0 = λ v. RefusesFile before.holds 2 script (ScriptRefusal v job.Reduce) s in script_refused s (subst P (only.1 u ru) r)
  fixed th only s _ (not_reduced _ u q ru rq f) =
      let P : Theory → Type 0 = λ v. ReadsScript before.holds script v job.Reduce q in
      let Q : Theory → Type 0 = λ v. EndsWith budget (reduced v budget q.terms) s in
      terms_end s q (subst P (only.1 u ru) rq) (subst Q (only.1 u ru) f)
  fixed th only _ _ (all_reduced u q rs n ru rq a) =
      let P : Theory → Type 0 = λ v. ReadsScript before.holds script v job.Reduce q in
      let Q : Theory → Type 0 = λ v. reduced v budget q.terms ≡ Results rs n in
      let R : Theory → Type 0 = λ v. Fixed th status.Ok (results_text v.signature rs (budget - n)) in
      subst R (sym (only.1 u ru)) (terms_done q rs n (subst P (only.1 u ru) rq) (subst Q (only.1 u ru) a))

  pub reduced_agrees : (given : List ℕ) → IsReduced budget theory script given before → (s : Status) (text : List ℕ)
      → ReduceOutcome before.holds budget theory script s text → Agrees before after s text status.Ok given
  reduced_agrees given a s text c = go s text (fixed a.th (a.takes_theory.reads t) s text c)
    where
      go : (s : Status) (text : List ℕ) → Fixed a.th s text → Agrees before after s text status.Ok given
      go s _ (script_refused _ r) = absurd (not_script s a.th a.sc (a.takes_script.reads t).0 r)
      go s _ (terms_end _ q rq f) =
          let P : Script → Type 0 = λ x. EndsWith budget (reduced a.th budget x.terms) s in
          absurd (no_early_end budget (reduced a.th budget a.sc.terms) a.reduces.results a.reduces.left s a.reduces.all (subst P ((a.takes_script.reads t).1 q rq) f))
      go _ _ (terms_done q rs n rq e) =
          let P : Script → Type 0 = λ x. reduced a.th budget x.terms ≡ Results rs n in
          let both : Results rs n ≡ Results a.reduces.results a.reduces.left = sym (subst P ((a.takes_script.reads t).1 q rq) e) ∙ a.reduces.all in
          let one : rs ≡ a.reduces.results = cc in
          let two : n ≡ a.reduces.left = cc in
          let text : List ℕ = results_text a.th.signature rs (budget - n) in
          let same : text ≡ given = ap₂ (λ x k. results_text a.th.signature x (budget - k)) one two ∙ sym a.reduces.text_is in
          let Q : List ℕ → Type 0 = λ x. IsLike status.Ok text status.Ok x in
          alike status.Ok given (subst Q same (itself status.Ok text))

  ended_agrees : (r : Status) (a : TermsEnd budget theory script r before) (s : Status) (text : List ℕ) → Fixed a.th s text
      → Agrees before after s text r (refusal_text (Reduce budget theory script) r)
  ended_agrees r a s _ (script_refused _ x) = absurd (not_script s a.th a.sc (a.takes_script.reads t).0 x)
  ended_agrees r a s _ (terms_end _ q rq f) =
      let P : Script → Type 0 = λ x. EndsWith budget (reduced a.th budget x.terms) s in
      let same : s ≡ r = one_end budget (reduced a.th budget a.sc.terms) s r (subst P ((a.takes_script.reads t).1 q rq) f) a.ends in
      let Q : Status → Type 0 = λ x. IsLike s (refusal_text (Reduce budget theory script) s) x (refusal_text (Reduce budget theory script) x) in
      alike r (refusal_text (Reduce budget theory script) r) (subst Q same (itself s (refusal_text (Reduce budget theory script) s)))
  ended_agrees r a _ _ (terms_done q rs n rq e) =
      let P : Script → Type 0 = λ x. reduced a.th budget x.terms ≡ Results rs n in
      absurd (no_early_end budget (reduced a.th budget a.sc.terms) rs n r (subst P ((a.takes_script.reads t).1 q rq) e) a.ends)

  script_held : (th : Theory) (s : Status) (text : List ℕ) → Fixed th s text → before.holds script ≡ None → ⊥
  script_held th s _ (script_refused _ r) e = refused_held before.holds 2 script (ScriptRefusal th job.Reduce) s r e
  script_held th s _ (terms_end _ q rq f) e = holds_held before.holds script (λ b. ReadsAsScript th job.Reduce b q) rq e
  script_held th _ _ (terms_done q rs n rq a) e = holds_held before.holds script (λ b. ReadsAsScript th job.Reduce b q) rq e

  script_agrees : (th : Theory) → (r s : Status) (text : List ℕ) → FaultOf 2 script (ScriptRefusal th job.Reduce) before after r → Fixed th s text
      → Agrees before after s text r (refusal_text (Reduce budget theory script) r)
  script_agrees th r s _ (refuses _ x) (script_refused _ y) =
      alike r (refusal_text (Reduce budget theory script) r)
      (refused_alike (Reduce budget theory script) before.holds 2 script (ScriptRefusal th job.Reduce) s r (scripts.alike th job.Reduce) y x)
  script_agrees th r s _ (refuses _ x) (terms_end _ q rq f) = absurd (not_script r th q rq x)
  script_agrees th r _ _ (refuses _ x) (terms_done q rs n rq a) = absurd (not_script r th q rq x)
  script_agrees th _ s text (unread n e u) f = unread_file n (unread_rose script before after (script_held th s text f) u)
  script_agrees th _ s text out_of_memory f = memory

  theory_agrees : (r s : Status) (text : List ℕ) → FaultOf 1 theory TheoryRefusal before after r → ReduceOutcome before.holds budget theory script s text
      → Agrees before after s text r (refusal_text (Reduce budget theory script) r)
  theory_agrees r s _ (refuses _ x) (no_theory _ y) =
      alike r (refusal_text (Reduce budget theory script) r)
      (refused_alike (Reduce budget theory script) before.holds 1 theory TheoryRefusal s r once.alike y x)
  theory_agrees r s _ (refuses _ x) (no_script _ u ru y) = absurd (not_theory r u ru x)
  theory_agrees r s _ (refuses _ x) (not_reduced _ u q ru rq f) = absurd (not_theory r u ru x)
  theory_agrees r _ _ (refuses _ x) (all_reduced u q rs n ru rq a) = absurd (not_theory r u ru x)
  theory_agrees _ s text (unread n e u) c = unread_file n (unread_rose theory before after (theory_held s text c) u)
  theory_agrees _ s text out_of_memory c = memory

  pub reduce_agrees : (r s : Status) (text : List ℕ) → RefusesReduce budget theory script before after r
      → ReduceOutcome before.holds budget theory script s text → Agrees before after s text r (refusal_text (Reduce budget theory script) r)
  reduce_agrees r s text (theory_fault _ f) c = theory_agrees r s text (fault_of 1 theory TheoryRefusal before after r t f) c
  reduce_agrees r s text (script_fault _ th a f) c =
      script_agrees th r s text (fault_of 2 script (ScriptRefusal th job.Reduce) before after r t f) (fixed th (a.reads t) s text c)
  reduce_agrees r s text (term_ends _ f) c = ended_agrees r f s text (fixed f.th (f.takes_theory.reads t) s text c)
