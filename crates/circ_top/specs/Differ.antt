-- What `differ` does: its outcome, and what it answers.
use Rattle.std.specs.Prelude.{◌≡◌, ◌≤◌, ℕ, ◌-◌, List, length, Option, Some}
use Rattle.std.specs.List.{slice_get}
use Rattle.circ_outer.specs.Shelf.{ShelfState, IsQuiet}
use Rattle.circ_term.specs.Tree.{Tree}
use Rattle.circ_theory.specs.Theory.{Theory}
use Rattle.circ_theory.specs.Goal.{Goal}
use Rattle.circ_entry.specs.Entries.{Written}
use Rattle.circ_script.specs.Script.{Script}
use Rattle.circ_script.specs.declared.job.Job.TheVariants as job
use Rattle.circ_refute.specs.PlainRefutation.{refutations, goals_in}
use Rattle.circ_refute.specs.Difference.{DiffersBy}
use Rattle.circ_files.specs.Files.{Held}
use Rattle.circ_files.specs.ScriptFile.{TakesScript}
use Rattle.circ_files.specs.TheoryFile.{TakesTheory}
use Rattle.circ_status.specs.declared.status.Status.{Status}
use Rattle.circ_found.specs.Differing.{differs_text, decision_ending, DifferEnds}
use Rattle.circ_found.specs.Searchable.{ArePlainlySearchable}
use Rattle.circ_status.specs.Ending.{Stored, Ending}
use Rattle.circ_top.specs.Command.{Differ}
use Rattle.circ_top.specs.Delivery.{Prints}
use Rattle.circ_top.specs.Run.{Run}
use Rattle.circ_top.specs.Scripted.{GoalsEnd, to_differ, ScriptOutcome, IsDoneOn}
use Rattle.circ_turn.specs.declared.search.Limits.{Limits}

-- how looking for a difference ends, within limits: by what the plain refutation of the goals in order finds
abbrev pub DifferenceSought : (limits : Limits) → GoalsEnd
DifferenceSought limits th blocks e =
    decision_ending th limits.steps limits.derives (refutations th 1 limits.derives limits.steps (goals_in blocks)) ≡ e

abbrev pub DifferOutcome : Held → Limits → (theory script : List ℕ) → Status → (text : List ℕ) → (stored : Option Stored) → Type 0
DifferOutcome held limits theory script s text stored =
    ScriptOutcome to_differ held (Differ limits theory script) theory script (DifferenceSought limits) s text stored

-- The two files read, the script's goals can be searched, looking for a difference of them ends so, and what is found is right.
pub record IsDifferenceSought (limits : Limits) (theory script : List ℕ) (e : Ending) (before : ShelfState) : Type 0 where
  pub done : IsDoneOn to_differ theory script (λ th blocks end. DifferEnds th limits.steps limits.derives blocks end) e before
  pub searchable : ArePlainlySearchable done.th done.sc.blocks

-- Status 11 of `differ`: the two files read, and the experiment that is printed, of n entries, fits goal number `goal` of the script, counted from 1, and
-- leads its sides to two different constants of one case list, by derivations from the theory. The outside did not fail.
pub record TellsApart (theory script : List ℕ) (n : ℕ) (run : Run) : Type 0 where
  pub th : Theory
  pub sc : Script
  pub takes_theory : TakesTheory theory th run.before
  pub takes_script : TakesScript script th job.Differ sc run.before
  pub goal : ℕ
  pub counted : 1 ≤ goal
  pub told_apart : Goal
  pub goal_is : slice_get (goals_in sc.blocks) (goal - 1) ≡ Some told_apart
  pub entries : List Written
  pub left : Tree
  pub right : Tree
  pub differs : DiffersBy th told_apart entries left right
  pub count : n ≡ length entries
  pub quiet : IsQuiet run.before run.after
  pub prints : Prints (differs_text th goal entries left right) run.start run.end
