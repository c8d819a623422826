-- Files that are theories.
use Rattle.std.specs.Prelude.{◌≡◌, ℕ, List, true}
use Rattle.circ_outer.specs.Shelf.{ShelfState}
use Rattle.circ_theory.specs.Theory.{Theory}
use Rattle.circ_theory.specs.WellFormed.{IsWellFormed}
use Rattle.circ_read.specs.ReadsAs.{ReadsAs, FirstCause}
use Rattle.circ_files.specs.Files.{Held, IsOnly, AreBytes, Holds, Refusal, IsFileFault}
use Rattle.circ_status.specs.declared.status.Status.{Status}

-- The named file reads as th.
abbrev pub ReadsTheory : Held → (name : List ℕ) → Theory → Type 0
ReadsTheory held name th = Holds held name (λ bytes. ReadsAs bytes th)

-- Bytes read as th, which is well-formed. Where the shelf tells, the named file holds them, and reads as this theory and no other.
pub record TakesTheory (name : List ℕ) (th : Theory) (before : ShelfState) : Type 0 where
  pub bytes : AreBytes (λ bytes. ReadsAs bytes th)
  pub well_formed : IsWellFormed th
  pub reads : before.tells ≡ true → IsOnly th (ReadsTheory before.holds name)

-- bytes are refused for their first cause, with the number of its statement
abbrev pub TheoryRefusal : Refusal
TheoryRefusal place c bytes = FirstCause bytes place c

-- The named file, which is file 1, gives no theory.
abbrev pub IsTheoryFault : (name : List ℕ) → (before after : ShelfState) → Status → Type 0
IsTheoryFault name = IsFileFault 1 name TheoryRefusal
