-- Files that are scripts.
use Rattle.std.specs.Prelude.{◌≡◌, ℕ, List, true}
use Rattle.circ_outer.specs.Shelf.{ShelfState}
use Rattle.circ_theory.specs.Theory.{Theory}
use Rattle.circ_script.specs.declared.job.Job.{Job}
use Rattle.circ_script.specs.Script.{Script}
use Rattle.circ_script.specs.ReadsAsScript.{ReadsAsScript}
use Rattle.circ_script.specs.Refusing.{FirstScriptCause}
use Rattle.circ_files.specs.Files.{Held, IsOnly, AreBytes, Holds, Refusal, IsFileFault}
use Rattle.circ_status.specs.declared.status.Status.{Status}

-- The named file reads as s, a script for the job.
abbrev pub ReadsScript : Held → (name : List ℕ) → Theory → Job → Script → Type 0
ReadsScript held name th job s = Holds held name (λ bytes. ReadsAsScript th job bytes s)

-- Bytes read as s. Where the shelf tells, the named file holds them, and reads as this script and no other.
pub record TakesScript (name : List ℕ) (th : Theory) (job : Job) (s : Script) (before : ShelfState) : Type 0 where
  pub bytes : AreBytes (λ bytes. ReadsAsScript th job bytes s)
  pub reads : before.tells ≡ true → IsOnly s (ReadsScript before.holds name th job)

-- bytes are refused for their first cause, with the number of its item
abbrev pub ScriptRefusal : Theory → Job → Refusal
ScriptRefusal th job place c bytes = FirstScriptCause th job bytes place c

-- The named file, which is file 2, gives no script.
abbrev pub IsScriptFault : (name : List ℕ) → Theory → Job → (before after : ShelfState) → Status → Type 0
IsScriptFault name th job = IsFileFault 2 name (ScriptRefusal th job)
