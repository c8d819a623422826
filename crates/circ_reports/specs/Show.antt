-- What `show` does: its outcome, and what it prints. It is refused where the theory file is at fault.
use Rattle.std.specs.Prelude.{ℕ, List}
use Rattle.circ_outer.specs.Shelf.{ShelfState}
use Rattle.circ_theory.specs.Theory.{Theory}
use Rattle.circ_show.specs.TheoryText.{IsTheoryText}
use Rattle.circ_files.specs.Refusals.{statement_places, text_of_refusal}
use Rattle.circ_files.specs.Files.{Held, RefusesFile}
use Rattle.circ_files.specs.TheoryFile.{ReadsTheory, TakesTheory, TheoryRefusal}
use Rattle.circ_status.specs.declared.status.Status.{Status}
use Rattle.circ_status.specs.declared.status.Status.TheVariants as status

-- The outcome, with its text: the theory file refuses the command; or it reads, and its text is given.
pub data ShowOutcome (held : Held) (theory : List ℕ) : Status → (text : List ℕ) → Type 0 where
  not_shown : (s : Status) → RefusesFile held 1 theory TheoryRefusal s → ShowOutcome held theory s (text_of_refusal statement_places s)
  shown : (th : Theory) (text : List ℕ) → ReadsTheory held theory th → IsTheoryText th text → ShowOutcome held theory status.Ok text

-- The file reads, and this is the theory's text.
pub record IsShown (theory text : List ℕ) (before : ShelfState) : Type 0 where
  pub th : Theory
  pub text_is : IsTheoryText th text
  pub takes_theory : TakesTheory theory th before
