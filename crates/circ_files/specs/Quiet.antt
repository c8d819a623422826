-- Which answers come over a shelf whose count of faults changed.
use Rattle.std.specs.Prelude.{Result, Ok, Err}
use Rattle.circ_outer.specs.Shelf.{ShelfState, IsQuiet}
use Rattle.circ_files.specs.declared.files.TakeFault.{TakeFault}
use Rattle.circ_files.specs.declared.files.TakeFault.TheVariants.{Failed}
use Rattle.circ_status.specs.declared.status.Status.{Status}
use Rattle.circ_status.specs.declared.status.Status.TheVariants.{ReadFault}

-- only a file that was not read
abbrev pub IsQuietBut : (before after : ShelfState) → Status → Type 0
IsQuietBut before after (ReadFault n) = Unit {0}
IsQuietBut before after _ = IsQuiet before after

-- the answer has a text, unless a file was not read
abbrev pub HasText : Status → Type 0
HasText (ReadFault n) = ⊥
HasText _ = Unit {0}

module _ {A : Type 0} where
  -- the same of a call that gives something or else an answer
  abbrev pub IsQuietCall : (before after : ShelfState) → Result A Status → Type 0
  IsQuietCall before after (Ok _) = IsQuiet before after
  IsQuietCall before after (Err s) = IsQuietBut before after s

  -- the same of taking a file
  abbrev pub IsQuietTaking : (before after : ShelfState) → Result A TakeFault → Type 0
  IsQuietTaking before after (Err Failed) = Unit {0}
  IsQuietTaking before after _ = IsQuiet before after
