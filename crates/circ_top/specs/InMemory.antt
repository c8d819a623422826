-- What a run over files and a text in memory answers.
use Rattle.std.specs.Prelude.{◌≡◌, ◌++◌, ℕ, List, Option, IsSome}
use Rattle.circ_top.specs.Command.{Command, Check, Prove, Show, Contexts, Reduce, Same, Differ, Trace, Regex, Upgrade, Expand, Library, Generate, Asks}
use Rattle.circ_files.specs.Files.{Held}
use Rattle.circ_files.specs.Like.{IsLike}
use Rattle.circ_top.specs.Outcome.{Outcome}
use Rattle.circ_top.specs.Run.{Run}
use Rattle.circ_status.specs.Ending.{Stored}
use Rattle.circ_top.specs.Storing.{HoldsAfter}
use Rattle.circ_status.specs.declared.status.Status.{Status}
use Rattle.circ_status.specs.declared.status.Status.TheVariants as status

-- the files of a command hold something
abbrev pub HoldsFilesOf : Held → Command → Type 0
HoldsFilesOf held (Check report theory proof) = IsSome (held theory) × IsSome (held proof)
HoldsFilesOf held (Prove limits theory script proof) = IsSome (held theory) × IsSome (held script)
HoldsFilesOf held (Show theory) = IsSome (held theory)
HoldsFilesOf held (Contexts budget theory) = IsSome (held theory)
HoldsFilesOf held (Reduce budget theory script) = IsSome (held theory) × IsSome (held script)
HoldsFilesOf held (Same first second) = IsSome (held first) × IsSome (held second)
HoldsFilesOf held (Differ limits theory script) = IsSome (held theory) × IsSome (held script)
HoldsFilesOf held (Trace limits theory script) = IsSome (held theory) × IsSome (held script)
HoldsFilesOf held (Regex limits left right proof) = Unit {0}
HoldsFilesOf held (Upgrade theory proof new) = IsSome (held theory) × IsSome (held proof)
HoldsFilesOf held (Expand theory proof goal derivatives) = IsSome (held theory) × IsSome (held proof)
HoldsFilesOf held (Library text) = Unit {0}
HoldsFilesOf held (Generate n) = Unit {0}

abbrev pub HoldsFiles : List (List ℕ) → Held → Type 0
HoldsFiles words held = (c : Command) → Asks words c → HoldsFilesOf held c

-- The answer is this outcome or a like answer. Its text was appended, and afterwards the files hold what the outcome stores.
pub record AppendsAnswer (run : Run) (s : Status) (text : List ℕ) (stored : Option Stored) (r : Status) : Type 0 where
  pub given : List ℕ
  pub like : IsLike s text r given
  pub held : HoldsAfter stored run.before run.after
  pub appended : run.end.written ≡ run.start.written ++ given

-- There is an outcome of this status, whose text was appended, and afterwards the files hold what it stores.
pub record AppendsOutcome (run : Run) (s : Status) : Type 0 where
  pub text : List ℕ
  pub stored : Option Stored
  pub outcome : Outcome run.words run.before.holds s text stored
  pub held : HoldsAfter stored run.before run.after
  pub appended : run.end.written ≡ run.start.written ++ text

-- The answer is an outcome; or memory ran out.
abbrev pub Appends : Run → Status → Type 0
Appends run status.Memory = Unit {0}
Appends run s = AppendsOutcome run s
