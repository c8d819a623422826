-- What a command over a theory and a script answers, and its outcome.
use Rattle.std.proofs.Common.{◌≡◌, ℕ, List, refl, ap, sym, subst, inl, inr, true, Option, None}
use Rattle.circ_outer.specs.Shelf.{ShelfState}
use Rattle.circ_theory.specs.Theory.{Theory}
use Rattle.circ_theory.specs.Goal.{Goal}
use Rattle.circ_script.specs.Script.{Script}
use Rattle.circ_script.specs.ReadsAsScript.{ReadsAsScript}
use Rattle.circ_files.specs.Files.{IsOnly, RefusesFile, IsUnread, IsTooLong, IsFileFault}
use Rattle.circ_files.specs.ScriptFile.{ReadsScript, ScriptRefusal}
use Rattle.circ_files.specs.Like.{IsLike, itself}
use Rattle.circ_read.specs.declared.cause.Cause.{Cause}
use Rattle.circ_status.specs.declared.status.Status.{Status}
use Rattle.circ_status.specs.declared.status.Status.TheVariants as status
use Rattle.circ_files.proofs.FileFaults.{FaultOf, fault_of, refuses, unread, out_of_memory, reads_not_refused, refused_held, holds_held, IsOneWay}
use Rattle.circ_files.proofs.FileFaults.{unread_rose, file_fault_not_ok, file_fault_not_refused}
use Rattle.circ_files.proofs.Readings.{ReadsOnce}
use Rattle.circ_files.proofs.Scripts.{ScriptsOnce}
use Rattle.circ_status.specs.Ending.{Stored, Ending, ending}
use Rattle.circ_top.specs.Causes.{AtEither}
use Rattle.circ_top.specs.Command.{Command, Asks}
use Rattle.circ_top.specs.Outcome.{OutcomeOf}
use Rattle.circ_top.specs.Scripted.{GoalsEnd, Taking, to_prove, to_differ, ReadsFor, TakesFor, ScriptOutcome, no_theory, no_script, goals_done, IsDoneOn, RefusesScript, theory_fault, script_fault}
use Rattle.circ_top.specs.Refusals.{refusal_text}
use Rattle.circ_top.proofs.Agreeing.{DueIs, file_due, AgreesWith, agreed, unread_file_with, memory_with}
use Rattle.circ_top.proofs.Refused.{refused_alike}

module _ (how : Taking) (theory script : List ℕ) (before after : ShelfState) where
  pub script_not_ok : (s : Status) → RefusesScript how theory script before after s → s ≡ status.Ok → ⊥
  script_not_ok s (theory_fault _ f) e = file_fault_not_ok 1 theory how.Refuses before after s e f
  script_not_ok s (script_fault _ th a f) e = file_fault_not_ok 2 script (ScriptRefusal th how.job) before after s e f

  pub script_not_refused : (s : Status) (n : ℕ) → RefusesScript how theory script before after s → s ≡ status.Refused n → ⊥
  script_not_refused s n (theory_fault _ f) e = file_fault_not_refused 1 theory how.Refuses before after s n e f
  script_not_refused s n (script_fault _ th a f) e = file_fault_not_refused 2 script (ScriptRefusal th how.job) before after s n e f

  pub script_not_apart : (s : Status) (n : ℕ) → RefusesScript how theory script before after s → s ≡ status.Differ n → ⊥
  script_not_apart s n (theory_fault _ f) e = let P : Status → Type 0 = IsFileFault 1 theory how.Refuses before after in subst P e f
  script_not_apart s n (script_fault _ th a f) e =
      let P : Status → Type 0 = IsFileFault 2 script (ScriptRefusal th how.job) before after in subst P e f

  pub unread_script : (s : Status) (n : ℕ) → RefusesScript how theory script before after s → s ≡ status.ReadFault n
      → (n ≡ after.count) × AtEither (λ th. TakesFor how theory th before) theory script (λ f name. IsUnread name before after)
  unread_script s n (theory_fault _ f) e = let P : Status → Type 0 = IsFileFault 1 theory how.Refuses before after in let r = subst P e f in (r.0, inl r.1)
  unread_script s n (script_fault _ th a f) e =
      let P : Status → Type 0 = IsFileFault 2 script (ScriptRefusal th how.job) before after in let r = subst P e f in (r.0, inr (th, (a, r.1)))

  pub past_script : (s : Status) (file n : ℕ) → RefusesScript how theory script before after s → s ≡ status.TooLong file n
      → AtEither (λ th. TakesFor how theory th before) theory script (λ f name. (f ≡ file) × IsTooLong name n before)
  past_script s file n (theory_fault _ f) e =
      let P : Status → Type 0 = IsFileFault 1 theory how.Refuses before after in let r = subst P e f in inl (sym r.0, r.1)
  past_script s file n (script_fault _ th a f) e =
      let P : Status → Type 0 = IsFileFault 2 script (ScriptRefusal th how.job) before after in let r = subst P e f in inr (th, (a, (sym r.0, r.1)))

  pub unwritten_script : (s : Status) (n : ℕ) → RefusesScript how theory script before after s → s ≡ status.WriteFault n → ⊥
  unwritten_script s n (theory_fault _ f) e = let P : Status → Type 0 = IsFileFault 1 theory how.Refuses before after in subst P e f
  unwritten_script s n (script_fault _ th a f) e = let P : Status → Type 0 = IsFileFault 2 script (ScriptRefusal th how.job) before after in subst P e f

module _ (how : Taking) (k : Command) (theory script : List ℕ) (Ends : GoalsEnd) (before after : ShelfState) where
  pub done_outcome : (s : Status) (text : List ℕ) (stored : Option Stored) → before.tells ≡ true
      → IsDoneOn how theory script Ends (ending s text stored) before → ScriptOutcome how before.holds k theory script Ends s text stored
  done_outcome s text stored t a = goals_done s text stored a.th a.sc (a.takes_theory.reads t).0 (a.takes_script.reads t).0 a.ends

  pub due_script : (words : List (List ℕ)) (s : Status)
      → ((s : Status) (text : List ℕ) → ScriptOutcome how before.holds k theory script Ends s text None → OutcomeOf before.holds k s text None)
      → before.tells ≡ true → Asks words k
      → RefusesScript how theory script before after s → DueIs words before after s (refusal_text k s) None
  due_script words s is t i (theory_fault _ f) =
      file_due words k before after 1 theory how.Refuses s t i f (λ r x. is r (refusal_text k r) (no_theory r x))
  due_script words s is t i (script_fault _ th a f) =
      file_due words k before after 2 script (ScriptRefusal th how.job) s t i f (λ r x. is r (refusal_text k r) (no_script r th (a.reads t).0 x))

-- theories are read for a command in one way
pub record TakenOnce (how : Taking) : Type 0 where
  pub either : (bytes : List ℕ) (th : Theory) (n : ℕ) (c : Cause) → how.Reads bytes th → how.Refuses n c bytes → ⊥
  pub alike : IsOneWay how.Refuses

pub to_prove_once : ReadsOnce → TakenOnce to_prove
to_prove_once once = record { either = once.either; alike = once.alike }

pub to_differ_once : ReadsOnce → TakenOnce to_differ
to_differ_once once = record { either = once.either; alike = once.alike }

-- work on goals ends in one way
abbrev pub EndsOnce : GoalsEnd → Type 0
EndsOnce Ends = (th : Theory) (blocks : List (List Goal)) (d e : Ending) → Ends th blocks d → Ends th blocks e → d ≡ e

module _ (how : Taking) (once : TakenOnce how) (scripts : ScriptsOnce) (k : Command) (theory script : List ℕ) (Ends : GoalsEnd) (one : EndsOnce Ends)
    (before after : ShelfState) (t : before.tells ≡ true) where
  theory_held : (s : Status) (text : List ℕ) (stored : Option Stored) → ScriptOutcome how before.holds k theory script Ends s text stored
      → before.holds theory ≡ None → ⊥
  theory_held s _ _ (no_theory _ r) e = refused_held before.holds 1 theory how.Refuses s r e
  theory_held s _ _ (no_script _ u ru r) e = holds_held before.holds theory (λ b. how.Reads b u) ru e
  theory_held s text stored (goals_done _ _ _ u q ru rq x) e = holds_held before.holds theory (λ b. how.Reads b u) ru e

  not_theory : (s : Status) (u : Theory) → ReadsFor how before.holds theory u → RefusesFile before.holds 1 theory how.Refuses s → ⊥
  not_theory s u ru x = reads_not_refused before.holds 1 theory how.Refuses (λ b. how.Reads b u) s ru (λ p c b h n. once.either b u p c h n) x

  not_script : (s : Status) (u : Theory) (q : Script) → ReadsScript before.holds script u how.job q
      → RefusesFile before.holds 2 script (ScriptRefusal u how.job) s → ⊥
  not_script s u q rq x =
      reads_not_refused before.holds 2 script (ScriptRefusal u how.job) (λ b. ReadsAsScript u how.job b q) s rq
      (λ p c b h n. scripts.either u how.job b q p c h n) x

  -- the outcome where the theory file reads as this theory alone
  data Fixed (th : Theory) : Status → List ℕ → Option Stored → Type 0 where
    script_refused : (s : Status) → RefusesFile before.holds 2 script (ScriptRefusal th how.job) s
        → Fixed th s (refusal_text k s) None
    work_ends : (s : Status) (text : List ℕ) (stored : Option Stored) (q : Script) → ReadsScript before.holds script th how.job q
        → Ends th q.blocks (ending s text stored) → Fixed th s text stored

  fixed : (th : Theory) → IsOnly th (ReadsFor how before.holds theory) → (s : Status) (text : List ℕ) (stored : Option Stored)
      → ScriptOutcome how before.holds k theory script Ends s text stored → Fixed th s text stored
  fixed th only s _ _ (no_theory _ r) = absurd (not_theory s th only.0 r)
  fixed th only s _ _ (no_script _ u ru r) =
      let P : Theory → Type 0 = λ v. RefusesFile before.holds 2 script (ScriptRefusal v how.job) s in script_refused s (subst P (only.1 u ru) r)
  fixed th only s text stored (goals_done _ _ _ u q ru rq x) =
      let P : Theory → Type 0 = λ v. ReadsScript before.holds script v how.job q in
      let Q : Theory → Type 0 = λ v. Ends v q.blocks (ending s text stored) in
      work_ends s text stored q (subst P (only.1 u ru) rq) (subst Q (only.1 u ru) x)

  pub done_agrees : (r : Status) (given : List ℕ) (other : Option Stored) → IsDoneOn how theory script Ends (ending r given other) before
      → (s : Status) (text : List ℕ) (stored : Option Stored) → ScriptOutcome how before.holds k theory script Ends s text stored
      → AgreesWith before after s text stored r given other
  done_agrees r given other a s text stored c = go s text stored (fixed a.th (a.takes_theory.reads t) s text stored c)
    where
      go : (s : Status) (text : List ℕ) (stored : Option Stored) → Fixed a.th s text stored → AgreesWith before after s text stored r given other
      go s _ _ (script_refused _ x) = absurd (not_script s a.th a.sc (a.takes_script.reads t).0 x)
      go s text stored (work_ends _ _ _ q rq x) =
          let P : Script → Type 0 = λ v. Ends a.th v.blocks (ending s text stored) in
          let same : ending s text stored ≡ ending r given other =
          one a.th a.sc.blocks (ending s text stored) (ending r given other)
          (subst P ((a.takes_script.reads t).1 q rq) x) a.ends in
          let Q : Status → Type 0 = λ y. IsLike s text y text in
          let R : List ℕ → Type 0 = λ y. IsLike s text r y in
          agreed r given other (subst R (ap (λ y. y.text) same) (subst Q (ap (λ y. y.status) same) (itself s text))) (sym (ap (λ y. y.stored) same))

  script_held : (th : Theory) (s : Status) (text : List ℕ) (stored : Option Stored) → Fixed th s text stored → before.holds script ≡ None → ⊥
  script_held th s _ _ (script_refused _ r) e = refused_held before.holds 2 script (ScriptRefusal th how.job) s r e
  script_held th s text stored (work_ends _ _ _ q rq x) e = holds_held before.holds script (λ b. ReadsAsScript th how.job b q) rq e

  script_agrees : (th : Theory) → (r s : Status) (text : List ℕ) (stored : Option Stored) → FaultOf 2 script (ScriptRefusal th how.job) before after r
      → Fixed th s text stored → AgreesWith before after s text stored r (refusal_text k r) None
  script_agrees th r s _ _ (refuses _ x) (script_refused _ y) =
      agreed r (refusal_text k r) None
      (refused_alike k before.holds 2 script (ScriptRefusal th how.job) s r (scripts.alike th how.job) y x) refl
  script_agrees th r s text stored (refuses _ x) (work_ends _ _ _ q rq f) = absurd (not_script r th q rq x)
  script_agrees th _ s text stored (unread n e u) f = unread_file_with n (unread_rose script before after (script_held th s text stored f) u)
  script_agrees th _ s text stored out_of_memory f = memory_with

  theory_agrees : (r s : Status) (text : List ℕ) (stored : Option Stored) → FaultOf 1 theory how.Refuses before after r
      → ScriptOutcome how before.holds k theory script Ends s text stored
      → AgreesWith before after s text stored r (refusal_text k r) None
  theory_agrees r s _ _ (refuses _ x) (no_theory _ y) =
      agreed r (refusal_text k r) None
      (refused_alike k before.holds 1 theory how.Refuses s r once.alike y x) refl
  theory_agrees r s _ _ (refuses _ x) (no_script _ u ru y) = absurd (not_theory r u ru x)
  theory_agrees r s text stored (refuses _ x) (goals_done _ _ _ u q ru rq f) = absurd (not_theory r u ru x)
  theory_agrees _ s text stored (unread n e u) c = unread_file_with n (unread_rose theory before after (theory_held s text stored c) u)
  theory_agrees _ s text stored out_of_memory c = memory_with

  pub refused_agrees : (r s : Status) (text : List ℕ) (stored : Option Stored) → RefusesScript how theory script before after r
      → ScriptOutcome how before.holds k theory script Ends s text stored
      → AgreesWith before after s text stored r (refusal_text k r) None
  refused_agrees r s text stored (theory_fault _ f) c = theory_agrees r s text stored (fault_of 1 theory how.Refuses before after r t f) c
  refused_agrees r s text stored (script_fault _ th a f) c =
      script_agrees th r s text stored (fault_of 2 script (ScriptRefusal th how.job) before after r t f) (fixed th (a.reads t) s text stored c)
