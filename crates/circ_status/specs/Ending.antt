-- How the work of a command ends, before anything is stored or printed.
use Rattle.std.specs.Prelude.{ℕ, List, Option, Some, None}
use Rattle.circ_status.specs.declared.status.Status.{Status}
use Rattle.circ_status.specs.declared.ending.Ending.{Ending as TheEnding}
use Rattle.circ_status.specs.declared.ending.Stored.{Stored as TheStored}

-- a file that is to be stored
pub record Stored : Type 0 where
  pub name : List ℕ
  pub bytes : List ℕ

abbrev pub stored_as : (name bytes : List ℕ) → Stored
stored_as name bytes = record { name = name; bytes = bytes }

-- a status, with a text and what is to be stored
pub record Ending : Type 0 where
  pub status : Status
  pub text : List ℕ
  pub stored : Option Stored

abbrev pub ending : Status → (text : List ℕ) → (stored : Option Stored) → Ending
ending s text stored = record { status = s; text = text; stored = stored }

-- what an ending in memory is
abbrev pub plain_stored : Option TheStored → Option Stored
plain_stored None = None
plain_stored (Some s) = Some (stored_as s.name.now s.bytes.items)

abbrev pub plain_ending : TheEnding → Ending
plain_ending e = ending e.status e.text.items (plain_stored e.stored)
