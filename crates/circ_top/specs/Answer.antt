-- What a run answers: each answer with its cause and its text (`AnswersDue`).
use Rattle.std.specs.Prelude.{◌≡◌, ℕ, List, [], Option, None}
use Rattle.circ_outer.specs.Shelf.{ShelfState, IsQuiet}
use Rattle.circ_reports.specs.Contexts.{IsListed}
use Rattle.circ_generate.specs.Generating.{Generates}
use Rattle.circ_reports.specs.Check.{IsAccepted, RefusesCheck}
use Rattle.circ_top.specs.Command.{Command, Check, Prove, Show, Contexts, Reduce, Same, Differ, Trace, Regex, Upgrade, Expand, Library, Generate, Asks, IsNoCommand}
use Rattle.circ_top.specs.Delivery.{Prints}
use Rattle.circ_top.specs.Differ.{IsDifferenceSought}
use Rattle.circ_status.specs.Ending.{ending}
use Rattle.circ_reports.specs.Expand.{IsExpanded, RefusesExpand}
use Rattle.circ_reports.specs.Library.{RefusesLibrary}
use Rattle.circ_top.specs.Prove.{IsSearched}
use Rattle.circ_top.specs.Scripted.{to_prove, to_differ, RefusesScript}
use Rattle.circ_top.specs.Trace.{IsTraced}
use Rattle.circ_reports.specs.Reduce.{IsReduced, RefusesReduce}
use Rattle.circ_top.specs.Run.{Run}
use Rattle.circ_top.specs.Regex.{IsEqualitySearched, RefusesRegex}
use Rattle.circ_reports.specs.Same.{IsCompared, RefusesSame}
use Rattle.circ_reports.specs.Show.{IsShown}
use Rattle.circ_reports.specs.Upgrade.{IsUpgraded, RefusesUpgrade}
use Rattle.circ_status.specs.Ending.{Stored}
use Rattle.circ_top.specs.Storing.{HoldsAfter, Ends}
use Rattle.circ_top.specs.Refusals.{usage_text, refusal_text}
use Rattle.circ_files.specs.TheoryFile.{IsTheoryFault}
use Rattle.circ_status.specs.declared.status.Status.{Status}
use Rattle.circ_status.specs.declared.status.Status.TheVariants as status

-- a command whose work ends with 0, its text, and what is stored
abbrev pub Succeeds : Command → (text : List ℕ) → (stored : Option Stored) → (before : ShelfState) → Type 0
Succeeds (Check report theory proof) text stored before = IsAccepted report theory proof text before × (stored ≡ None)
Succeeds (Prove limits theory script proof) text stored before =
    IsSearched limits theory script proof (ending status.Ok text stored) before
Succeeds (Show theory) text stored before = IsShown theory text before × (stored ≡ None)
Succeeds (Contexts budget theory) text stored before = IsListed budget theory text before × (stored ≡ None)
Succeeds (Reduce budget theory script) text stored before = IsReduced budget theory script text before × (stored ≡ None)
Succeeds (Same first second) text stored before = IsCompared first second status.Ok text before × (stored ≡ None)
Succeeds (Differ limits theory script) text stored before = IsDifferenceSought limits theory script (ending status.Ok text stored) before
Succeeds (Trace limits theory script) text stored before = IsTraced limits theory script (ending status.Ok text stored) before
Succeeds (Regex limits left right proof) text stored before = IsEqualitySearched limits left right proof (ending status.Ok text stored)
Succeeds (Upgrade theory proof new) text stored before = IsUpgraded theory proof new text stored before
Succeeds (Expand theory proof goal derivatives) text stored before = IsExpanded theory proof goal derivatives text before × (stored ≡ None)
Succeeds (Library given) text stored before = (text ≡ given) × (stored ≡ None)
Succeeds (Generate n) text stored before = Generates n (ending status.Ok text stored)

-- how a command's work ends; a search may end with other statuses too
abbrev pub Comes : Command → Status → (text : List ℕ) → (stored : Option Stored) → (before : ShelfState) → Type 0
Comes (Prove limits theory script proof) s text stored before = IsSearched limits theory script proof (ending s text stored) before
Comes (Same first second) s text stored before = IsCompared first second s text before × (stored ≡ None)
Comes (Differ limits theory script) s text stored before = IsDifferenceSought limits theory script (ending s text stored) before
Comes (Trace limits theory script) s text stored before = IsTraced limits theory script (ending s text stored) before
Comes (Regex limits left right proof) s text stored before = IsEqualitySearched limits left right proof (ending s text stored)
Comes (Generate n) s text stored before = Generates n (ending s text stored)
Comes c s text stored before = (s ≡ status.Ok) × Succeeds c text stored before

-- why a command's work is refused
abbrev pub RefusesCommand : Command → (before after : ShelfState) → Status → Type 0
RefusesCommand (Check report theory proof) before after s = RefusesCheck theory proof before after s
RefusesCommand (Prove limits theory script proof) before after s = RefusesScript to_prove theory script before after s
RefusesCommand (Show theory) before after s = IsTheoryFault theory before after s
RefusesCommand (Contexts budget theory) before after s = IsTheoryFault theory before after s
RefusesCommand (Reduce budget theory script) before after s = RefusesReduce budget theory script before after s
RefusesCommand (Same first second) before after s = RefusesSame first second before after s
RefusesCommand (Differ limits theory script) before after s = RefusesScript to_differ theory script before after s
RefusesCommand (Trace limits theory script) before after s = RefusesScript to_prove theory script before after s
RefusesCommand (Regex limits left right proof) before after s = RefusesRegex left right s
RefusesCommand (Upgrade theory proof new) before after s = RefusesUpgrade theory proof before after s
RefusesCommand (Expand theory proof goal derivatives) before after s = RefusesExpand theory proof goal derivatives before after s
RefusesCommand (Library given) before after s = RefusesLibrary s
RefusesCommand (Generate n) before after s = s ≡ status.Memory

-- The answer that is due to a run, with its text and what is to be stored: the words are no command, or the command's work ends so, or it is refused; or
-- memory ran out before the words were read.
pub data DueAnswer (words : List (List ℕ)) (before after : ShelfState) : Status → (text : List ℕ) → (stored : Option Stored) → Type 0 where
  no_command : IsNoCommand words → DueAnswer words before after status.Usage usage_text None
  work_done : (c : Command) (s : Status) (text : List ℕ) (stored : Option Stored) → Asks words c → Comes c s text stored before
      → DueAnswer words before after s text stored
  refusal : (c : Command) (s : Status) → Asks words c → RefusesCommand c before after s → DueAnswer words before after s (refusal_text c s) None
  words_unread : DueAnswer words before after status.Memory [] None

-- What a run answers: the answer that is due, with its file stored and its text printed; or that the file was not stored; or a part of the text, and that the
-- sink failed or memory ran out.
pub record AnswersDue (run : Run) (s : Status) : Type 0 where
  pub answer : Status
  pub text : List ℕ
  pub stored : Option Stored
  pub due : DueAnswer run.words run.before run.after answer text stored
  pub ends : Ends run answer text stored s

-- Status 0: the words are those of a command that succeeds, its text was printed, and the outside did not fail.
pub record Succeeded (run : Run) : Type 0 where
  pub command : Command
  pub text : List ℕ
  pub stored : Option Stored
  pub asks : Asks run.words command
  pub succeeds : Succeeds command text stored run.before
  pub held : HoldsAfter stored run.before run.after
  pub quiet : IsQuiet run.before run.after
  pub prints : Prints text run.start run.end
