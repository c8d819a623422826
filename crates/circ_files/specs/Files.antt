-- The files that a run takes: what they hold, and why one gives nothing.
use Rattle.std.specs.Prelude.{◌≡◌, ◌<◌, ◌≤◌, ◌+◌, ◌⊎◌, ℕ, List, Option, Some, true, false, length}
use Rattle.circ_outer.specs.Shelf.{ShelfState, Struck, Missing}
use Rattle.circ_outer.specs.declared.fault.OuterFault.{OuterFault}
use Rattle.circ_outer.specs.declared.fault.OuterFault.TheVariants as outer
use Rattle.circ_read.specs.declared.cause.Cause.{Cause}
use Rattle.circ_files.specs.declared.files.TakeFault.{TakeFault}
use Rattle.circ_files.specs.declared.files.TakeFault.TheVariants as taking
use Rattle.circ_files.specs.declared.files.TheConstants.{MOST_BYTES, PIECE}
use Rattle.circ_status.specs.declared.status.Status.{Status}
use Rattle.circ_status.specs.declared.status.Status.TheVariants as status

-- a fault of the outside, as that of a file that was not taken
abbrev pub take_fault : OuterFault → TakeFault
take_fault outer.Failed = taking.Failed
take_fault outer.Memory = taking.Memory

-- the one value of which this is true
abbrev pub IsOnly : {X : Type 0} → X → (X → Type 0) → Type 0
IsOnly x P = P x × ((y : _) → P y → y ≡ x)

-- what each name holds
abbrev pub Held : Type 0
Held = List ℕ → Option (List ℕ)

-- There are bytes within the limit of which this is true.
pub record AreBytes (P : List ℕ → Type 0) : Type 0 where
  pub bytes : List ℕ
  pub short : length bytes ≤ MOST_BYTES
  pub are : P bytes

-- The named file holds bytes within the limit, of which this is true.
pub record Holds (held : Held) (name : List ℕ) (P : List ℕ → Type 0) : Type 0 where
  pub bytes : List ℕ
  pub bytes_are : held name ≡ Some bytes
  pub short : length bytes ≤ MOST_BYTES
  pub are : P bytes

-- The named file holds more bytes than the limit. Of these n were taken, at most one piece past it.
pub record HoldsMore (held : Held) (name : List ℕ) (n : ℕ) : Type 0 where
  pub bytes : List ℕ
  pub bytes_are : held name ≡ Some bytes
  pub past : MOST_BYTES < n
  pub within_piece : n ≤ MOST_BYTES + PIECE
  pub within_file : n ≤ length bytes

-- why bytes are refused: a place, and a cause
abbrev pub Refusal : Type 1
Refusal = ℕ → Cause → List ℕ → Type 0

-- The named file refuses a command: it is too long, or its bytes are refused.
abbrev pub RefusesFile : Held → (file : ℕ) → (name : List ℕ) → Refusal → Status → Type 0
RefusesFile held file name N (status.TooLong f n) = (f ≡ file) × HoldsMore held name n
RefusesFile held file name N (status.Unreadable f place c) = (f ≡ file) × Holds held name (N place c)
RefusesFile held file name N _ = ⊥

-- The file was not read: the outside failed at this name, or the shelf tells that it holds nothing.
abbrev pub IsUnread : (name : List ℕ) → (before after : ShelfState) → Type 0
IsUnread name before after = Struck name false before after ⊎ Missing name before after

-- More than the limit was taken of the file: at most one piece more, and no more than the file holds.
pub record IsTooLong (name : List ℕ) (count : ℕ) (before : ShelfState) : Type 0 where
  pub past : MOST_BYTES < count
  pub within_piece : count ≤ MOST_BYTES + PIECE
  pub within_file : before.tells ≡ true → HoldsMore before.holds name count

-- The file of this number and name was not taken: it was not read, or it is too long, or memory ran out.
abbrev pub IsUntaken : (file : ℕ) → (name : List ℕ) → (before after : ShelfState) → Status → Type 0
IsUntaken file name before after (status.ReadFault n) = (n ≡ after.count) × IsUnread name before after
IsUntaken file name before after (status.TooLong f n) = (f ≡ file) × IsTooLong name n before
IsUntaken file name before after status.Memory = Unit {0}
IsUntaken file name before after _ = ⊥

-- The file gives nothing: it was not taken, or its bytes are refused.
abbrev pub IsFileFault : (file : ℕ) → (name : List ℕ) → Refusal → (before after : ShelfState) → Status → Type 0
IsFileFault file name N before after (status.Unreadable f place c) =
    (f ≡ file) × AreBytes (N place c) × (before.tells ≡ true → Holds before.holds name (N place c))
IsFileFault file name N before after s = IsUntaken file name before after s
