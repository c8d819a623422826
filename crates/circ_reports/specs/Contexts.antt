-- What `contexts` does: its outcome, and what it prints. It is refused where the theory file is at fault.
use Rattle.std.specs.Prelude.{◌≡◌, ℕ, List}
use Rattle.circ_outer.specs.Shelf.{ShelfState}
use Rattle.circ_theory.specs.Theory.{Theory}
use Rattle.circ_special.specs.declared.place.Place.{Place}
use Rattle.circ_rewrite.specs.Replacement.{Traced}
use Rattle.circ_plain_search.specs.Greatest.{GreatestSpecialSet}
use Rattle.circ_show.specs.PlacesText.{place_lines}
use Rattle.circ_files.specs.Refusals.{statement_places, text_of_refusal}
use Rattle.circ_files.specs.Files.{Held, RefusesFile}
use Rattle.circ_files.specs.TheoryFile.{ReadsTheory, TakesTheory, TheoryRefusal}
use Rattle.circ_status.specs.declared.status.Status.{Status}
use Rattle.circ_status.specs.declared.status.Status.TheVariants as status

-- The lines of the theory's greatest special set, for which each start term has this budget.
pub record IsContextsText (th : Theory) (budget : ℕ) (text : List ℕ) : Type 0 where
  pub places : List Place
  pub traces : List (List Traced)
  pub greatest : GreatestSpecialSet th budget places traces
  pub text_is : text ≡ place_lines th.signature places

-- The outcome, with its text: the theory file refuses the command; or it reads, and the lines of its set are given.
pub data ContextsOutcome (held : Held) (budget : ℕ) (theory : List ℕ) : Status → (text : List ℕ) → Type 0 where
  not_listed : (s : Status) → RefusesFile held 1 theory TheoryRefusal s
      → ContextsOutcome held budget theory s (text_of_refusal statement_places s)
  listed : (th : Theory) (text : List ℕ) → ReadsTheory held theory th → IsContextsText th budget text
      → ContextsOutcome held budget theory status.Ok text

-- The file reads, and these are the lines of the theory's set.
pub record IsListed (budget : ℕ) (theory text : List ℕ) (before : ShelfState) : Type 0 where
  pub th : Theory
  pub lines_are : IsContextsText th budget text
  pub takes_theory : TakesTheory theory th before
