-- What a run of the program promises: the headline (`Promises`).
use Rattle.std.specs.Prelude.{◌≡◌, ◌≤◌, ℕ, List, Option, None, true}
use Rattle.circ_outer.specs.Sink.{SinkFrame}
use Rattle.circ_theory.specs.Theory.{Theory}
use Rattle.circ_theory.specs.Goal.{Goal}
use Rattle.circ_proof.specs.Proof.{Proof}
use Rattle.circ_proof.specs.Accepted.{Derives, FirstFail}
use Rattle.circ_reports.specs.Check.{report_text}
use Rattle.circ_reports.specs.declared.report.Report.{Report}
use Rattle.circ_status.specs.Ending.{Stored}
use Rattle.circ_status.specs.Texts.{refused_text}
use Rattle.circ_status.specs.declared.status.Status.{Status}
use Rattle.circ_status.specs.declared.status.Status.TheVariants as status
use Rattle.circ_top.specs.Answer.{AnswersDue, Succeeded}
use Rattle.circ_top.specs.Causes.{IsOutcomeOrFault, AnswersOutcome, PrintsPartOf, IsPastLimit, IsReadFault, IsWriteFault, IsQuietRun}
use Rattle.circ_top.specs.Check.{Accepts, Rejects, FilesRead}
use Rattle.circ_top.specs.Command.{Check, Prove, Differ, Regex, Upgrade, Expand, Asks, IsNotStored}
use Rattle.circ_top.specs.Differ.{TellsApart}
use Rattle.circ_top.specs.Expand.{WritesDerivation}
use Rattle.circ_top.specs.Outcome.{Outcome}
use Rattle.circ_top.specs.Prove.{StoresProof}
use Rattle.circ_top.specs.Regex.{StoresEquality}
use Rattle.circ_top.specs.Run.{Run}
use Rattle.circ_top.specs.Upgrade.{StoresUpgraded}
use Rattle.circ_turn.specs.declared.search.Limits.{Limits}

-- What is promised of each run, by what it answers.
pub record Promises (run : Run) (answer : Status) : Type 0 where
  -- Status 0 of `check` and `relation`: the proof is accepted, so that every goal behaves, and every goal that a block derived. Where the shelf tells what
  -- the files hold, they read as this theory and this proof.
  pub accepted : (report : Report) (theory proof : List ℕ) → Asks run.words (Check report theory proof) → answer ≡ status.Ok
      → Accepts report theory proof run
  -- Status 1: which step is the first that is no instance of its rule. Of the files it says the same.
  pub refused : (n : ℕ) → answer ≡ status.Refused n → Rejects run n
  -- Status 0 of `prove`: the third word's file holds the text of an accepted proof of exactly the script's goals.
  pub proved : (limits : Limits) (theory script proof : List ℕ) → Asks run.words (Prove limits theory script proof) → answer ≡ status.Ok
      → StoresProof theory script proof run
  -- Status 0 of `regex`: the first two words are expressions that match the same words, and the third word's file holds the text of an accepted proof in LANG
  -- that their terms are equal.
  pub expressions : (limits : Limits) (left right proof : List ℕ) → Asks run.words (Regex limits left right proof) → answer ≡ status.Ok
      → StoresEquality left right proof run
  -- Status 11 of `differ`: the experiment that is printed leads the sides of a goal of the script to two different constants of one case list.
  pub told_apart : (limits : Limits) (theory script : List ℕ) (n : ℕ) → Asks run.words (Differ limits theory script) → answer ≡ status.Differ n
      → TellsApart theory script n run
  -- Status 0 of `upgrade`: the third word's file holds the text of the second file's proof in version 2, which is checked as that is.
  pub upgraded : (theory proof new : List ℕ) → Asks run.words (Upgrade theory proof new) → answer ≡ status.Ok → StoresUpgraded theory proof new run
  -- Status 0 of `expand`: what is printed leads from the experiment on the left side of a goal of the proof to that on its right side, with no hypothesis.
  pub expansion : (theory proof : List ℕ) (goal : ℕ) (derivatives : List ℕ) → Asks run.words (Expand theory proof goal derivatives) → answer ≡ status.Ok
      → WritesDerivation theory proof goal derivatives run
  -- Status 0 of any command: its text is printed, which `Succeeds` states for each.
  pub succeeded : answer ≡ status.Ok → Succeeded run
  -- Each answer has its cause and its text.
  pub answers : AnswersDue run answer
  -- Where the shelf tells, no other answer comes than the outcome of the words and the files, with exactly its text,
  pub outcome : run.before.tells ≡ true → IsOutcomeOrFault run answer
  -- and it comes unless a count of faults rose or memory ran out.
  pub complete : run.before.tells ≡ true → (s : Status) (text : List ℕ) (stored : Option Stored) → Outcome run.words run.before.holds s text stored
      → AnswersOutcome run s text stored answer
  -- Where the files read, the first step that fails is answered,
  pub first_failure : run.before.tells ≡ true → (report : Report) (th : Theory) (p : Proof) (n : ℕ) → FilesRead run.words run.before.holds report th p
      → FirstFail th p n → AnswersOutcome run (status.Refused n) (refused_text n) None answer
  -- and where none does, the report.
  pub accepted_text : run.before.tells ≡ true → (report : Report) (th : Theory) (p : Proof) (derived : List (List Goal))
      → FilesRead run.words run.before.holds report th p → Derives th p derived
      → AnswersOutcome run status.Ok (report_text report th.signature p derived) None answer
  -- A file that is too long, faults of the outside, want of memory: when they come, and what was printed then.
  pub file_limit : (file n : ℕ) → answer ≡ status.TooLong file n → IsPastLimit run.words run.before file n
  pub read_fault : (n : ℕ) → answer ≡ status.ReadFault n → IsReadFault run n
  pub write_fault : (n : ℕ) → answer ≡ status.WriteFault n → IsWriteFault run n
  pub memory : answer ≡ status.Memory → run.before.tells ≡ true → (s : Status) (text : List ℕ) (stored : Option Stored)
      → Outcome run.words run.before.holds s text stored → PrintsPartOf s text run.start run.end
  -- A fault of the shelf gives ReadFault, or WriteFault if it is that of storing the command's file, and no other answer.
  pub quiet : IsQuietRun run.words run.before run.after answer
  -- No name changes what it holds but the one under which the command stores.
  pub holds : (n : List ℕ) → IsNotStored run.words n → run.after.holds n ≡ run.before.holds n
  -- Shelf and sink tell as before, and neither count of faults falls.
  pub shelf_tells : run.after.tells ≡ run.before.tells
  pub shelf_count : run.before.count ≤ run.after.count
  pub sink_frame : SinkFrame run.start run.end
