-- What `prove` does: its outcome, and what it stores.
use Rattle.std.specs.Prelude.{◌≡◌, ◌≢◌, ◌≤◌, ℕ, List, length, map, Option, Some, true}
use Rattle.circ_outer.specs.Shelf.{ShelfState, IsQuiet}
use Rattle.circ_theory.specs.Theory.{Theory}
use Rattle.circ_proof.specs.Accepted.{Accepted}
use Rattle.circ_proof.specs.Proof.{Proof, ProofFor}
use Rattle.circ_proof_text.specs.ProofText.{proof_text}
use Rattle.circ_script.specs.Script.{Script}
use Rattle.circ_script.specs.declared.job.Job.TheVariants as job
use Rattle.circ_files.specs.Files.{Held}
use Rattle.circ_files.specs.ScriptFile.{TakesScript}
use Rattle.circ_files.specs.TheoryFile.{TakesTheory}
use Rattle.circ_status.specs.declared.status.Status.{Status}
use Rattle.circ_status.specs.Ending.{Stored, Ending}
use Rattle.circ_found.specs.Answering.{proved_text, SearchEnds}
use Rattle.circ_top.specs.Command.{Prove}
use Rattle.circ_search.specs.Plain.{conduct_with}
use Rattle.circ_conditional_search.specs.ConditionalSearch.{CanAllBeSearched}
use Rattle.circ_top.specs.Delivery.{Prints}
use Rattle.circ_top.specs.Run.{Run}
use Rattle.circ_top.specs.Scripted.{GoalsEnd, to_prove, ScriptOutcome, IsDoneOn}
use Rattle.circ_turn.specs.declared.search.Limits.{Limits}

-- how the search for a proof of the goals ends, within limits, where the proof is stored under a name
abbrev pub ProofSought : (limits : Limits) → (name : List ℕ) → GoalsEnd
ProofSought limits name th blocks e = SearchEnds th (conduct_with limits) name blocks e

abbrev pub ProveOutcome : Held → Limits → (theory script name : List ℕ) → Status → (text : List ℕ) → (stored : Option Stored) → Type 0
ProveOutcome held limits theory script name s text stored =
    ScriptOutcome to_prove held (Prove limits theory script name) theory script (ProofSought limits name) s text stored

-- The two files read, the script's goals can be searched, and the search ends so.
pub record IsSearched (limits : Limits) (theory script name : List ℕ) (e : Ending) (before : ShelfState) : Type 0 where
  pub done : IsDoneOn to_prove theory script (ProofSought limits name) e before
  pub searchable : CanAllBeSearched done.th done.sc.blocks

-- Status 0 of `prove`: the two files read, and the named file holds the text of an accepted proof of exactly the script's goals, where the shelf tells.
-- Every other name holds what it held. The report of this was printed, and the outside did not fail.
pub record StoresProof (theory script name : List ℕ) (run : Run) : Type 0 where
  pub th : Theory
  pub sc : Script
  pub p : Proof
  pub takes_theory : TakesTheory theory th run.before
  pub takes_script : TakesScript script th job.Prove sc run.before
  pub proof_for : ProofFor th p
  pub accepted : Accepted th p
  pub goals : map (λ b. b.goals) p.blocks ≡ sc.blocks
  pub short : length (proof_text p) ≤ 67108864
  pub holds : run.before.tells ≡ true → run.after.holds name ≡ Some (proof_text p)
  pub others : (n : List ℕ) → n ≢ name → run.after.holds n ≡ run.before.holds n
  pub quiet : IsQuiet run.before run.after
  pub prints : Prints (proved_text th.signature p) run.start run.end
