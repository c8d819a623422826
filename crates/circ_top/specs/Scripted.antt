-- Commands over a theory and a script of goals, `prove`, `trace` and `differ`: their outcome, by what their work on the goals comes to.
use Rattle.std.specs.Prelude.{◌≡◌, ℕ, List, Option, None, true}
use Rattle.circ_outer.specs.Shelf.{ShelfState}
use Rattle.circ_theory.specs.Theory.{Theory}
use Rattle.circ_theory.specs.WellFormed.{IsWellFormed}
use Rattle.circ_theory.specs.Goal.{Goal}
use Rattle.circ_read.specs.ReadsAs.{ReadsAs}
use Rattle.circ_script.specs.Script.{Script}
use Rattle.circ_script.specs.declared.job.Job.{Job}
use Rattle.circ_script.specs.declared.job.Job.TheVariants as job
use Rattle.circ_files.specs.Files.{Held, IsOnly, AreBytes, Holds, Refusal, RefusesFile, IsFileFault}
use Rattle.circ_files.specs.ScriptFile.{ReadsScript, TakesScript, ScriptRefusal, IsScriptFault}
use Rattle.circ_files.specs.TheoryFile.{TheoryRefusal}
use Rattle.circ_status.specs.declared.status.Status.{Status}
use Rattle.circ_status.specs.Ending.{Stored, Ending, ending}
use Rattle.circ_top.specs.Command.{Command}
use Rattle.circ_top.specs.Refusals.{refusal_text}

-- how work on blocks of goals over a theory ends
abbrev pub GoalsEnd : Type 1
GoalsEnd = Theory → (blocks : List (List Goal)) → Ending → Type 0

-- what a command takes of its two files: what bytes read as a theory for it, why they give none, and what its script is for
pub record Taking : Type 1 where
  pub Reads : (bytes : List ℕ) → Theory → Type 0
  pub Refuses : Refusal
  pub job : Job

-- `prove` and `trace` take any theory, and goals with conditions or without.
abbrev pub to_prove : Taking
to_prove = record { Reads = ReadsAs; Refuses = TheoryRefusal; job = job.Prove }

-- `differ` takes any theory, and goals without conditions.
abbrev pub to_differ : Taking
to_differ = record { Reads = ReadsAs; Refuses = TheoryRefusal; job = job.Differ }

-- The named file reads for the command as th.
abbrev pub ReadsFor : Taking → Held → (name : List ℕ) → Theory → Type 0
ReadsFor how held name th = Holds held name (λ bytes. how.Reads bytes th)

-- Bytes read for the command as th, which is well-formed. Where the shelf tells, the named file holds them, and reads as this theory and no other.
pub record TakesFor (how : Taking) (name : List ℕ) (th : Theory) (before : ShelfState) : Type 0 where
  pub bytes : AreBytes (λ bytes. how.Reads bytes th)
  pub well_formed : IsWellFormed th
  pub reads : before.tells ≡ true → IsOnly th (ReadsFor how before.holds name)

-- The outcome of the command k, with its text and what is stored: the theory file refuses it; or this reads, and the script file refuses it; or both read,
-- and the work on the script's goals ends so.
pub data ScriptOutcome (how : Taking) (held : Held) (k : Command) (theory script : List ℕ) (Ends : GoalsEnd) : Status → (text : List ℕ) → (stored : Option Stored) → Type 0 where
  no_theory : (s : Status) → RefusesFile held 1 theory how.Refuses s → ScriptOutcome how held k theory script Ends s (refusal_text k s) None
  no_script : (s : Status) (th : Theory) → ReadsFor how held theory th → RefusesFile held 2 script (ScriptRefusal th how.job) s
      → ScriptOutcome how held k theory script Ends s (refusal_text k s) None
  goals_done : (s : Status) (text : List ℕ) (stored : Option Stored) (th : Theory) (sc : Script) → ReadsFor how held theory th
      → ReadsScript held script th how.job sc → Ends th sc.blocks (ending s text stored) → ScriptOutcome how held k theory script Ends s text stored

-- The two files read, and the work on the script's goals ends so.
pub record IsDoneOn (how : Taking) (theory script : List ℕ) (Ends : GoalsEnd) (e : Ending) (before : ShelfState) : Type 0 where
  pub th : Theory
  pub sc : Script
  pub ends : Ends th sc.blocks e
  pub takes_theory : TakesFor how theory th before
  pub takes_script : TakesScript script th how.job sc before

-- Why there is no work: the theory file is at fault; or it reads, and the script file is at fault.
pub data RefusesScript (how : Taking) (theory script : List ℕ) (before after : ShelfState) : Status → Type 0 where
  theory_fault : (s : Status) → IsFileFault 1 theory how.Refuses before after s → RefusesScript how theory script before after s
  script_fault : (s : Status) (th : Theory) → TakesFor how theory th before → IsScriptFault script th how.job before after s
      → RefusesScript how theory script before after s
