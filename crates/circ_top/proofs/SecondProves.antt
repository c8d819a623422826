-- A `prove` behind another on one shelf, whose theory and script have other names than the stored file.
use Rattle.std.proofs.Common.{◌≡◌, ◌≢◌, ◌↔◌, ℕ, List, refl, sym, ap, ◌∙◌, subst, Option, Some, None}
use Rattle.std.proofs.lemmas.Option.{same_Some}
use Rattle.circ_outer.specs.Shelf.{ShelfState}
use Rattle.circ_theory.specs.Theory.{Theory}
use Rattle.circ_script.specs.Script.{Script}
use Rattle.circ_script.specs.ReadsAsScript.{ReadsAsScript}
use Rattle.circ_script.specs.declared.job.Job.TheVariants as job
use Rattle.circ_files.specs.Files.{Held, Holds, HoldsMore, Refusal, RefusesFile}
use Rattle.circ_files.specs.ScriptFile.{ScriptRefusal}
use Rattle.circ_files.specs.TheoryFile.{TheoryRefusal}
use Rattle.circ_read.specs.ReadsAs.{ReadsAs}
use Rattle.circ_status.specs.declared.status.Status.{Status}
use Rattle.circ_status.specs.declared.status.Status.TheVariants as status
use Rattle.circ_status.specs.Ending.{Stored}
use Rattle.circ_turn.specs.declared.search.Limits.{Limits}
use Rattle.circ_top.specs.Causes.{IsNotPut}
use Rattle.circ_top.specs.Command.{Command, Prove, Asks, IsNotStored, stored_name}
use Rattle.circ_top.specs.SecondProve.{AsksAgain}
use Rattle.circ_top.specs.Outcome.{OutcomeOf, Outcome, usage, command}
use Rattle.circ_top.specs.Prove.{ProveOutcome}
use Rattle.circ_top.specs.Run.{Run}
use Rattle.circ_top.specs.Scripted.{no_theory, no_script, goals_done}
use Rattle.circ_top.specs.Refusals.{refusal_text}
use Rattle.circ_top.proofs.Requests.{same_command}

-- what a file holds, another holds that has the same bytes
module _ (held later : Held) (old new : List ℕ) (same : later new ≡ held old) where
  holds_too : (P : List ℕ → Type 0) → Holds held old P → Holds later new P
  holds_too P h = record { bytes = h.bytes; bytes_are = same ∙ h.bytes_are; short = h.short; are = h.are }

  holds_more_too : (n : ℕ) → HoldsMore held old n → HoldsMore later new n
  holds_more_too n h =
      record { bytes = h.bytes; bytes_are = same ∙ h.bytes_are; past = h.past; within_piece = h.within_piece; within_file = h.within_file }

  refuses_too : (file : ℕ) (N : Refusal) (s : Status) → RefusesFile held file old N s → RefusesFile later file new N s
  refuses_too file N (status.TooLong f n) r = (r.0, holds_more_too n r.1)
  refuses_too file N (status.Unreadable f place c) r = (r.0, holds_too (N place c) r.1)
  refuses_too file N status.Ok r = absurd r
  refuses_too file N (status.Refused n) r = absurd r
  refuses_too file N status.Usage r = absurd r
  refuses_too file N (status.Stuck b g) r = absurd r
  refuses_too file N (status.Spent r d s) x = absurd x
  refuses_too file N (status.ReadFault n) r = absurd r
  refuses_too file N (status.WriteFault n) r = absurd r
  refuses_too file N status.Memory r = absurd r
  refuses_too file N (status.TooBig n) r = absurd r
  refuses_too file N (status.TooDeep n) r = absurd r
  refuses_too file N (status.Differ n) r = absurd r
  refuses_too file N (status.Expansion n) r = absurd r
  refuses_too file N (status.Misfit n) r = absurd r

-- a refusal's text is the same for any names
same_text : (k : Limits) (t s p u v q : List ℕ) (x : Status) → refusal_text (Prove k t s p) x ≡ refusal_text (Prove k u v q) x
same_text k t s p u v q x = refl

module _ (held later : Held) (k : Limits) (theory script other next name : List ℕ) (a : later other ≡ held theory) (b : later next ≡ held script) where
  proves_too : (s : Status) (text : List ℕ) (stored : Option Stored) → ProveOutcome held k theory script name s text stored
      → ProveOutcome later k other next name s text stored
  proves_too s _ _ (no_theory _ r) =
      let P : List ℕ → Type 0 = λ t. ProveOutcome later k other next name s t None in
      subst P (same_text k other next name theory script name s) (no_theory s (refuses_too held later theory other a 1 TheoryRefusal s r))
  proves_too s _ _ (no_script _ th ru r) =
      let P : List ℕ → Type 0 = λ t. ProveOutcome later k other next name s t None in
      subst P (same_text k other next name theory script name s)
      (no_script s th (holds_too held later theory other a (λ x. ReadsAs x th) ru)
      (refuses_too held later script next b 2 (ScriptRefusal th job.Prove) s r))
  proves_too s text stored (goals_done _ _ _ th sc ru rq x) =
      goals_done s text stored th sc (holds_too held later theory other a (λ y. ReadsAs y th) ru)
      (holds_too held later script next b (λ y. ReadsAsScript th job.Prove y sc) rq) x

  pub comes_too : (words second : List (List ℕ)) → Asks words (Prove k theory script name) → Asks second (Prove k other next name)
      → (s : Status) (text : List ℕ) (stored : Option Stored) → Outcome words held s text stored → Outcome second later s text stored
  comes_too words second i j _ _ _ (usage n) = absurd (n (Prove k theory script name) i)
  comes_too words second i j s text stored (command c _ _ _ l x) =
      let P : Command → Type 0 = λ y. OutcomeOf held y s text stored in
      command (Prove k other next name) s text stored j (proves_too s text stored (subst P (same_command words c (Prove k theory script name) l i) x))

module _ (words second : List (List ℕ)) (before after : ShelfState) (a : AsksAgain words second before.holds) where
  -- where every name but the proof's holds what it held
  same_outcome : ((n : List ℕ) → n ≢ a.proof → after.holds n ≡ before.holds n) → (s : Status) (text : List ℕ) (stored : Option Stored)
      → Outcome words before.holds s text stored ↔ Outcome second after.holds s text stored
  same_outcome kept s text stored = (
    comes_too before.holds after.holds a.limits a.theory a.script a.second_theory a.second_script a.proof to_theory to_script words second a.asks a.asks_again
        s text stored,
    comes_too after.holds before.holds a.limits a.second_theory a.second_script a.theory a.script a.proof (sym to_theory) (sym to_script) second words
        a.asks_again a.asks s text stored,
  )
    where
      to_theory : after.holds a.second_theory ≡ before.holds a.theory
      to_theory = kept a.second_theory a.theory_apart ∙ a.same_theory

      to_script : after.holds a.second_script ≡ before.holds a.script
      to_script = kept a.second_script a.script_apart ∙ a.same_script

  -- a command that the words ask for stores the proof
  stores_proof : (c : Command) (name : List ℕ) → Asks words c → stored_name c ≡ Some name → name ≡ a.proof
  stores_proof c name i e =
      let P : Command → Type 0 = λ y. stored_name y ≡ Some name in
      sym (same_Some a.proof name (subst P (same_command words c (Prove a.limits a.theory a.script a.proof) i a.asks) e))

  pub behind_any_run : ((n : List ℕ) → IsNotStored words n → after.holds n ≡ before.holds n) → (s : Status) (text : List ℕ) (stored : Option Stored)
      → Outcome words before.holds s text stored ↔ Outcome second after.holds s text stored
  behind_any_run kept = same_outcome (λ n apart. kept n (λ c i e. apart (stores_proof c n i e)))

-- behind a run whose proof was not stored
pub behind_failed_puts : (second : List (List ℕ)) (run : Run) → AsksAgain run.words second run.before.holds → (m : ℕ) → IsNotPut run m
    → (s : Status) (text : List ℕ) (stored : Option Stored) → Outcome run.words run.before.holds s text stored ↔ Outcome second run.after.holds s text stored
behind_failed_puts second run a m f =
    let named = stores_proof run.words second run.before run.after a in
    same_outcome run.words second run.before run.after a
    (λ n apart. f.others.others n (λ e. apart (e ∙ named f.put.command f.put.name f.put.asks f.put.named)))
