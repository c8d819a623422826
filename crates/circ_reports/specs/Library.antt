-- What `library` does.
use Rattle.std.specs.Prelude.{◌≡◌, ℕ, List}
use Rattle.circ_status.specs.declared.status.Status.{Status}
use Rattle.circ_status.specs.declared.status.Status.TheVariants as status

-- The outcome, with its text: the text of the name.
abbrev pub LibraryOutcome : (given : List ℕ) → Status → (text : List ℕ) → Type 0
LibraryOutcome given s text = (s ≡ status.Ok) × (text ≡ given)

-- It is refused for want of memory alone.
abbrev pub RefusesLibrary : Status → Type 0
RefusesLibrary s = s ≡ status.Memory
