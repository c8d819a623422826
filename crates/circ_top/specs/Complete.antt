-- That nothing is left out: each run has an outcome. This is said by two denials, since nothing here decides which it is.
use Rattle.std.specs.Prelude.{ℕ, List, Option}
use Rattle.circ_files.specs.Files.{Held}
use Rattle.circ_top.specs.Outcome.{Outcome}
use Rattle.circ_status.specs.Ending.{Stored}
use Rattle.circ_status.specs.declared.status.Status.{Status}

-- The words and what the named files hold have an outcome.
abbrev pub HasOutcome : (words : List (List ℕ)) → Held → Type 0
HasOutcome words held = ((s : Status) (text : List ℕ) (stored : Option Stored) → Outcome words held s text stored → ⊥) → ⊥
