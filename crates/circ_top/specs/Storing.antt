-- What becomes of the file that a run stores.
use Rattle.std.specs.Prelude.{◌≡◌, ◌≢◌, ◌⊎◌, ℕ, List, [], Option, Some, None, true}
use Rattle.circ_outer.specs.Shelf.{ShelfState, Struck, IsQuiet, PutFrame}
use Rattle.circ_status.specs.declared.status.Status.{Status}
use Rattle.circ_status.specs.declared.status.Status.TheVariants as status
use Rattle.circ_status.specs.Ending.{Stored}
use Rattle.circ_top.specs.Delivery.{Prints, Delivers}
use Rattle.circ_top.specs.Run.{Run}

-- Afterwards the stored file holds its bytes, where the shelf tells, and every other name what it held.
abbrev pub HoldsAfter : (stored : Option Stored) → (before after : ShelfState) → Type 0
HoldsAfter None before after = (n : List ℕ) → after.holds n ≡ before.holds n
HoldsAfter (Some s) before after =
    (before.tells ≡ true → after.holds s.name ≡ Some s.bytes) × ((n : List ℕ) → n ≢ s.name → after.holds n ≡ before.holds n)

-- Why a file of this name was not stored: the outside failed, or memory ran out.
abbrev pub IsUnstored : (name : List ℕ) → (before after : ShelfState) → Status → Type 0
IsUnstored name before after (status.WriteFault n) = (n ≡ after.count) × Struck name true before after
IsUnstored name before after status.Memory = IsQuiet before after
IsUnstored name before after _ = ⊥

-- What was to be stored was not. Nothing is known of its file, and every other name holds what it held.
pub record FailsToStore (stored : Option Stored) (before after : ShelfState) (s : Status) : Type 0 where
  pub file : Stored
  pub is : stored ≡ Some file
  pub why : IsUnstored file.name before after s
  pub others : PutFrame file.name before after

-- What becomes of an answer, with its text and what is to be stored: this is stored, and the text is written; or it is not stored, and nothing is printed.
pub data Ends (run : Run) (answer : Status) (text : List ℕ) (stored : Option Stored) : Status → Type 0 where
  stored_first : (s : Status) → HoldsAfter stored run.before run.after → Delivers text run.start run.end answer s → Ends run answer text stored s
  not_stored : (s : Status) → FailsToStore stored run.before run.after s → Prints [] run.start run.end → Ends run answer text stored s

-- A fault of the shelf gives WriteFault, where it is a `put` of what was to be stored, and no other answer. Nothing is said where a file was not read.
abbrev pub IsQuietEnd : (stored : Option Stored) → (before after : ShelfState) → Status → Type 0
IsQuietEnd stored before after (status.ReadFault n) = Unit {0}
IsQuietEnd stored before after (status.WriteFault n) =
    IsQuiet before after ⊎ ((file : Stored) × (stored ≡ Some file) × Struck file.name true before after)
IsQuietEnd stored before after s = IsQuiet before after
