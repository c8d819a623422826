-- The bytes of a script: what they read as (`ReadsAsScript`), or else their first cause (`FirstScriptCause`).
use Rattle.std.specs.Prelude.{◌≡◌, ℕ, List, [], Result, Ok, Err}
use Rattle.circ_lexer.specs.TokenList.{AreTokens}
use Rattle.circ_theory.specs.Theory.{Theory}
use Rattle.circ_script.specs.declared.script.Script as made
use Rattle.circ_statement.specs.Words.{Word}
use Rattle.circ_read.specs.declared.cause.Cause.{Cause}
use Rattle.circ_read.specs.declared.cause.ReadFault.{ReadFault}
use Rattle.circ_read.specs.declared.cause.ReadFault.TheVariants.{Statement, Memory}
use Rattle.circ_script.specs.declared.job.Job.{Job}
use Rattle.circ_script.specs.Script.{Script, plain_script}
use Rattle.circ_script.specs.Drafts.{Draft, first_draft, IsFinished, script_of}
use Rattle.circ_script.specs.Adding.{TakesItems}
use Rattle.circ_script.specs.Refusing.{FirstScriptCause}

-- The items of the bytes lead, from the theory alone, to a finished draft of the script.
pub record ReadsAsScript (th : Theory) (job : Job) (bytes : List ℕ) (s : Script) : Type 0 where
  pub tokens : List Word
  pub are_tokens : AreTokens bytes tokens
  pub count : ℕ
  pub last : Draft
  pub items : TakesItems job (first_draft th) tokens count last []
  pub finished : IsFinished job last
  pub is : s ≡ script_of last

-- what reading a script answers
abbrev pub GivesScript : Result made.Script ReadFault → Theory → Job → List ℕ → Type 0
GivesScript (Ok s) th job bytes = ReadsAsScript th job bytes (plain_script s)
GivesScript (Err (Statement n c)) th job bytes = FirstScriptCause th job bytes n c
GivesScript (Err Memory) th job bytes = Unit {0}

-- The bytes read as a script or have a first cause, by double negation.
abbrev pub ScriptOrCause : Theory → Job → List ℕ → Type 0
ScriptOrCause th job bytes =
    ((s : Script) → ReadsAsScript th job bytes s → ⊥) → ((n : ℕ) (c : Cause) → FirstScriptCause th job bytes n c → ⊥) → ⊥
