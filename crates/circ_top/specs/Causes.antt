-- When each answer comes, by the outcome of the run and the faults of the outside.
use Rattle.std.specs.Prelude.{◌≡◌, ◌⊎◌, ℕ, List, [], Option, Some, true}
use Rattle.circ_outer.specs.Count.{Rose}
use Rattle.circ_outer.specs.Shelf.{ShelfState, Struck, PutFrame, IsQuiet}
use Rattle.circ_outer.specs.Sink.{SinkState}
use Rattle.circ_theory.specs.Theory.{Theory}
use Rattle.circ_top.specs.Command.{Command, Check, Prove, Show, Contexts, Reduce, Same, Differ, Trace, Regex, Upgrade, Expand, Library, Generate, Asks, stored_name}
use Rattle.circ_top.specs.Delivery.{Prints, PrintsPart, PrintsFront}
use Rattle.circ_files.specs.Files.{IsUnread, IsTooLong}
use Rattle.circ_files.specs.Like.{IsLike}
use Rattle.circ_status.specs.Ending.{ending}
use Rattle.circ_generate.specs.Generating.{Generates}
use Rattle.circ_top.specs.Outcome.{Outcome}
use Rattle.circ_top.specs.Prove.{IsSearched}
use Rattle.circ_top.specs.Regex.{IsEqualitySearched}
use Rattle.circ_top.specs.Run.{Run}
use Rattle.circ_top.specs.Trace.{IsTraced}
use Rattle.circ_reports.specs.Same.{AtAutomaton}
use Rattle.circ_status.specs.Ending.{Stored}
use Rattle.circ_top.specs.Storing.{HoldsAfter}
use Rattle.circ_files.specs.TheoryFile.{TakesTheory}
use Rattle.circ_top.specs.Scripted.{to_prove, to_differ, TakesFor}
use Rattle.circ_status.specs.declared.status.Status.{Status}
use Rattle.circ_status.specs.declared.status.Status.TheVariants as status

-- An outcome of this status: its text was printed, and afterwards the files hold what it stores.
pub record PrintsOutcome (run : Run) (s : Status) : Type 0 where
  pub text : List ℕ
  pub stored : Option Stored
  pub outcome : Outcome run.words run.before.holds s text stored
  pub held : HoldsAfter stored run.before run.after
  pub prints : Prints text run.start run.end

-- The answer is an outcome; or it is a fault of the outside or want of memory.
abbrev pub IsOutcomeOrFault : Run → Status → Type 0
IsOutcomeOrFault run (status.ReadFault n) = Unit {0}
IsOutcomeOrFault run (status.WriteFault n) = Unit {0}
IsOutcomeOrFault run status.Memory = Unit {0}
IsOutcomeOrFault run s = PrintsOutcome run s

-- A part of the text, or of that of a like answer, was printed.
pub record PrintsPartOf (s : Status) (text : List ℕ) (start end : SinkState) : Type 0 where
  pub answer : Status
  pub given : List ℕ
  pub like : IsLike s text answer given
  pub part : PrintsPart given start end

-- What is answered where this is the outcome: the same or a like answer, with its file stored and its text printed; or that a count of faults rose or memory
-- ran out.
pub data AnswersOutcome (run : Run) (s : Status) (text : List ℕ) (stored : Option Stored) : Status → Type 0 where
  printed : (r : Status) (given : List ℕ) → IsLike s text r given → HoldsAfter stored run.before run.after → Prints given run.start run.end
      → AnswersOutcome run s text stored r
  not_read : (n : ℕ) → Rose run.before.count run.after.count → Prints [] run.start run.end → AnswersOutcome run s text stored (status.ReadFault n)
  not_written : (n : ℕ) → Rose run.start.count run.end.count → HoldsAfter stored run.before run.after → PrintsPartOf s text run.start run.end
      → AnswersOutcome run s text stored (status.WriteFault n)
  not_put : (n : ℕ) (x : Stored) → stored ≡ Some x → n ≡ run.after.count → Struck x.name true run.before run.after
      → PutFrame x.name run.before run.after → Prints [] run.start run.end → AnswersOutcome run s text stored (status.WriteFault n)
  no_memory : PrintsPartOf s text run.start run.end → AnswersOutcome run s text stored status.Memory

-- The first of two files has the fact, by its number and name; or it reads as a theory, and the second has the fact.
abbrev pub AtEither : (takes : Theory → Type 0) → (theory second : List ℕ) → (ℕ → List ℕ → Type 0) → Type 0
AtEither takes theory second P = P 1 theory ⊎ ((th : Theory) × (takes th × P 2 second))

-- A file of the command has the fact.
abbrev pub AtFile : ShelfState → Command → (ℕ → List ℕ → Type 0) → Type 0
AtFile before (Check report theory proof) P = AtEither (λ th. TakesTheory theory th before) theory proof P
AtFile before (Prove limits theory script proof) P = AtEither (λ th. TakesFor to_prove theory th before) theory script P
AtFile before (Show theory) P = P 1 theory
AtFile before (Contexts budget theory) P = P 1 theory
AtFile before (Reduce budget theory script) P = AtEither (λ th. TakesTheory theory th before) theory script P
AtFile before (Same first second) P = AtAutomaton before first second P
AtFile before (Differ limits theory script) P = AtEither (λ th. TakesFor to_differ theory th before) theory script P
AtFile before (Trace limits theory script) P = AtEither (λ th. TakesFor to_prove theory th before) theory script P
AtFile before (Regex limits left right proof) P = ⊥
AtFile before (Upgrade theory proof new) P = AtEither (λ th. TakesTheory theory th before) theory proof P
AtFile before (Expand theory proof goal derivatives) P = AtEither (λ th. TakesTheory theory th before) theory proof P
AtFile before (Library text) P = ⊥
AtFile before (Generate n) P = ⊥

-- The text of a proof that was found is longer than a file may be.
abbrev pub HasLongProof : ShelfState → Command → (file count : ℕ) → Type 0
HasLongProof before (Prove limits theory script proof) file n =
    (text : List ℕ) × (stored : Option Stored) × IsSearched limits theory script proof (ending (status.TooLong file n) text stored) before
HasLongProof before (Trace limits theory script) file n =
    (text : List ℕ) × (stored : Option Stored) × IsTraced limits theory script (ending (status.TooLong file n) text stored) before
HasLongProof before (Regex limits left right proof) file n =
    (text : List ℕ) × (stored : Option Stored) × IsEqualitySearched limits left right proof (ending (status.TooLong file n) text stored)
HasLongProof before (Generate m) file n = (text : List ℕ) × (stored : Option Stored) × Generates m (ending (status.TooLong file n) text stored)
HasLongProof before c file n = ⊥

-- The words are those of a command, of which a file was taken past the limit, or the file that it stores would be past it.
pub record IsPastLimit (words : List (List ℕ)) (before : ShelfState) (file count : ℕ) : Type 0 where
  pub command : Command
  pub asks : Asks words command
  pub past : AtFile before command (λ f name. (f ≡ file) × IsTooLong name count before) ⊎ HasLongProof before command file count

-- The words are those of a command, of which a file was not read. The shelf's count is given, and the sink got nothing.
pub record IsReadFault (run : Run) (count : ℕ) : Type 0 where
  pub command : Command
  pub asks : Asks run.words command
  pub unread : AtFile run.before command (λ f name. IsUnread name run.before run.after)
  pub counted : count ≡ run.after.count
  pub nothing : Prints [] run.start run.end

-- A text was not written whole. The sink's count rose and is given, and the sink got a part of the text, which is the outcome's where the shelf tells.
pub record IsUnwritten (run : Run) (count : ℕ) : Type 0 where
  pub outcome : Status
  pub text : List ℕ
  pub stored : Option Stored
  pub due : run.before.tells ≡ true → Outcome run.words run.before.holds outcome text stored
  pub held : HoldsAfter stored run.before run.after
  pub rose : Rose run.start.count run.end.count
  pub counted : count ≡ run.end.count
  pub part : PrintsFront text run.start run.end

-- The outside failed to store the file of the command.
pub record FailsToPut (words : List (List ℕ)) (before after : ShelfState) : Type 0 where
  pub command : Command
  pub asks : Asks words command
  pub name : List ℕ
  pub named : stored_name command ≡ Some name
  pub struck : Struck name true before after

-- The file of a command was not stored. The shelf's count rose and is given, and its last fault is a `put` of this file. Every other name holds what it held,
-- and the sink got nothing.
pub record IsNotPut (run : Run) (count : ℕ) : Type 0 where
  pub put : FailsToPut run.words run.before run.after
  pub others : PutFrame put.name run.before run.after
  pub counted : count ≡ run.after.count
  pub nothing : Prints [] run.start run.end

abbrev pub IsWriteFault : Run → (count : ℕ) → Type 0
IsWriteFault run n = IsUnwritten run n ⊎ IsNotPut run n

-- A fault of the shelf gives ReadFault, or WriteFault where it is a `put` of the file that the command stores, and no other answer.
abbrev pub IsQuietRun : (words : List (List ℕ)) → (before after : ShelfState) → Status → Type 0
IsQuietRun words before after (status.ReadFault n) = Unit {0}
IsQuietRun words before after (status.WriteFault n) = IsQuiet before after ⊎ FailsToPut words before after
IsQuietRun words before after s = IsQuiet before after
