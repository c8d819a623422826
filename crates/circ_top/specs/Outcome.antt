-- What a run of the program comes to, from its words and what the named files hold (`Outcome`).
use Rattle.std.specs.Prelude.{◌≡◌, ℕ, List, Option, None}
use Rattle.circ_status.specs.Ending.{ending}
use Rattle.circ_generate.specs.Generating.{Generates}
use Rattle.circ_reports.specs.Contexts.{ContextsOutcome}
use Rattle.circ_reports.specs.Check.{CheckOutcome}
use Rattle.circ_top.specs.Differ.{DifferOutcome}
use Rattle.circ_top.specs.Command.{Command, Check, Prove, Show, Contexts, Reduce, Same, Differ, Trace, Regex, Upgrade, Expand, Library, Generate, Asks, IsNoCommand}
use Rattle.circ_files.specs.Files.{Held}
use Rattle.circ_reports.specs.Expand.{ExpandOutcome}
use Rattle.circ_reports.specs.Library.{LibraryOutcome}
use Rattle.circ_top.specs.Prove.{ProveOutcome}
use Rattle.circ_reports.specs.Reduce.{ReduceOutcome}
use Rattle.circ_top.specs.Regex.{RegexOutcome}
use Rattle.circ_reports.specs.Same.{SameOutcome}
use Rattle.circ_reports.specs.Show.{ShowOutcome}
use Rattle.circ_top.specs.Trace.{TraceOutcome}
use Rattle.circ_reports.specs.Upgrade.{UpgradeOutcome}
use Rattle.circ_status.specs.Ending.{Stored}
use Rattle.circ_top.specs.Refusals.{usage_text}
use Rattle.circ_status.specs.declared.status.Status.{Status}
use Rattle.circ_status.specs.declared.status.Status.TheVariants as status

-- the outcome of a command: a status, a text, and what is stored
abbrev pub OutcomeOf : Held → Command → Status → (text : List ℕ) → (stored : Option Stored) → Type 0
OutcomeOf held (Check report theory proof) s text stored = CheckOutcome held report theory proof s text × (stored ≡ None)
OutcomeOf held (Prove limits theory script proof) s text stored = ProveOutcome held limits theory script proof s text stored
OutcomeOf held (Show theory) s text stored = ShowOutcome held theory s text × (stored ≡ None)
OutcomeOf held (Contexts budget theory) s text stored = ContextsOutcome held budget theory s text × (stored ≡ None)
OutcomeOf held (Reduce budget theory script) s text stored = ReduceOutcome held budget theory script s text × (stored ≡ None)
OutcomeOf held (Same first second) s text stored = SameOutcome held first second s text × (stored ≡ None)
OutcomeOf held (Differ limits theory script) s text stored = DifferOutcome held limits theory script s text stored
OutcomeOf held (Trace limits theory script) s text stored = TraceOutcome held limits theory script s text stored
OutcomeOf held (Regex limits left right proof) s text stored = RegexOutcome limits left right proof s text stored
OutcomeOf held (Upgrade theory proof new) s text stored = UpgradeOutcome held theory proof new s text stored
OutcomeOf held (Expand theory proof goal derivatives) s text stored = ExpandOutcome held theory proof goal derivatives s text × (stored ≡ None)
OutcomeOf held (Library given) s text stored = LibraryOutcome given s text × (stored ≡ None)
OutcomeOf held (Generate n) s text stored = Generates n (ending s text stored)

-- What a run comes to where nothing of the outside fails and memory is left.
pub data Outcome (words : List (List ℕ)) (held : Held) : Status → (text : List ℕ) → (stored : Option Stored) → Type 0 where
  usage : IsNoCommand words → Outcome words held status.Usage usage_text None
  command : (c : Command) (s : Status) (text : List ℕ) (stored : Option Stored) → Asks words c → OutcomeOf held c s text stored
      → Outcome words held s text stored
