-- What the words of a run ask for.
use Rattle.std.specs.Prelude.{◌≡◌, ◌≤◌, List, ℕ, [], ◌∷◌, Option, Some, None, codes, decimal, map}
use Rattle.std.specs.List.{AllByRecursion}
use Rattle.clap.specs.Faults.{fault_of}
use Rattle.clap.specs.Simple.{matches_of}
use Rattle.circ_lib.specs.Library.{library_text}
use Rattle.circ_top.specs.Words.{circ_app, Finds}
use Rattle.circ_reports.specs.declared.report.Report.{Report}
use Rattle.circ_reports.specs.declared.report.Report.TheVariants.{Goals, Relation}
use Rattle.circ_top.specs.declared.request.Request.{Request}
use Rattle.circ_top.specs.declared.request.Request.TheVariants as request
use Rattle.circ_turn.specs.declared.search.Limits.{Limits}

-- the command that gives a report
abbrev pub report_name : Report → List ℕ
report_name Goals = codes "check"
report_name Relation = codes "relation"

abbrev pub IsNoReport : (name : List ℕ) → Type 0
IsNoReport name = (r : Report) → name ≡ report_name r → ⊥

-- the words are these numbers, each at most 4,294,967,295, in decimal digits
abbrev pub AreNumbersOf : List ℕ → (words : List (List ℕ)) → Type 0
AreNumbersOf ns words = AllByRecursion (λ n. n ≤ 4294967295) ns × (words ≡ map decimal ns)

abbrev pub AreNoNumbers : (words : List (List ℕ)) → Type 0
AreNoNumbers words = (ns : List ℕ) → AreNumbersOf ns words → ⊥

-- Files go by their names. A proof is checked, and its goals are reported or the whole relation that it builds. A proof of a script's goals is searched for,
-- within limits, and stored. The places of the greatest special set are listed, and the terms of a script are reduced, by so many replacements at most. Two
-- automata are compared. An experiment is looked for that tells the sides of a goal of a script apart, within limits. The turns of the search for a proof of a script's goals are
-- shown, within limits. A proof that two regular expressions match the same words is searched for, within limits, and stored. A proof is stored in version 2
-- under another name. A derivation is written out from a proof, for an experiment of these derivatives on a goal that is counted from 1. The library's text is that of a name that it knows. A chain of so many streams is made and proved.
pub data Command : Type 0 where
  Check : (report : Report) (theory proof : List ℕ) → Command
  Prove : (limits : Limits) → (theory script proof : List ℕ) → Command
  Show : (theory : List ℕ) → Command
  Contexts : (budget : ℕ) → (theory : List ℕ) → Command
  Reduce : (budget : ℕ) → (theory script : List ℕ) → Command
  Same : (first second : List ℕ) → Command
  Differ : (limits : Limits) → (theory script : List ℕ) → Command
  Trace : (limits : Limits) → (theory script : List ℕ) → Command
  Regex : (limits : Limits) → (left right proof : List ℕ) → Command
  Upgrade : (theory proof new : List ℕ) → Command
  Expand : (theory proof : List ℕ) → (goal : ℕ) → (derivatives : List ℕ) → Command
  Library : (text : List ℕ) → Command
  Generate : (number : ℕ) → Command

-- The table of commands: the name of each, and the words that are given to it.
pub data IsCommand (limits : Limits) (name : List ℕ) (given : List (List ℕ)) : Command → Type 0 where
  check : (report : Report) (theory proof : List ℕ) → name ≡ report_name report → given ≡ theory ∷ proof ∷ []
      → IsCommand limits name given (Check report theory proof)
  prove : (theory script proof : List ℕ) → name ≡ codes "prove" → given ≡ theory ∷ script ∷ proof ∷ []
      → IsCommand limits name given (Prove limits theory script proof)
  show : (theory : List ℕ) → name ≡ codes "show" → given ≡ theory ∷ [] → IsCommand limits name given (Show theory)
  contexts : (theory : List ℕ) → name ≡ codes "contexts" → given ≡ theory ∷ [] → IsCommand limits name given (Contexts limits.steps theory)
  reduce : (theory script : List ℕ) → name ≡ codes "reduce" → given ≡ theory ∷ script ∷ []
      → IsCommand limits name given (Reduce limits.steps theory script)
  same : (first second : List ℕ) → name ≡ codes "same" → given ≡ first ∷ second ∷ [] → IsCommand limits name given (Same first second)
  differ : (theory script : List ℕ) → name ≡ codes "differ" → given ≡ theory ∷ script ∷ []
      → IsCommand limits name given (Differ limits theory script)
  trace : (theory script : List ℕ) → name ≡ codes "trace" → given ≡ theory ∷ script ∷ []
      → IsCommand limits name given (Trace limits theory script)
  regex : (left right proof : List ℕ) → name ≡ codes "regex" → given ≡ left ∷ right ∷ proof ∷ []
      → IsCommand limits name given (Regex limits left right proof)
  upgrade : (theory proof new : List ℕ) → name ≡ codes "upgrade" → given ≡ theory ∷ proof ∷ new ∷ []
      → IsCommand limits name given (Upgrade theory proof new)
  expand : (theory proof : List ℕ) (goal : ℕ) (derivatives : List ℕ) (entries : List (List ℕ)) → goal ≤ 4294967295 → AreNumbersOf derivatives entries
      → name ≡ codes "expand" → given ≡ theory ∷ proof ∷ decimal goal ∷ entries → IsCommand limits name given (Expand theory proof goal derivatives)
  library : (theory text : List ℕ) → name ≡ codes "library" → given ≡ theory ∷ [] → library_text theory ≡ Some text
      → IsCommand limits name given (Library text)
  generate : (number : ℕ) → 2 ≤ number → number ≤ 1000 → name ≡ codes "generate" → given ≡ decimal number ∷ []
      → IsCommand limits name given (Generate number)

abbrev pub IsNoneOfTable : Limits → (name : List ℕ) → (given : List (List ℕ)) → Type 0
IsNoneOfTable limits name given = (c : Command) → IsCommand limits name given c → ⊥

-- The words, of which the first is the program's name, ask for a command: `clap` takes them, and the table has the command for what it finds.
pub record Asks (words : List (List ℕ)) (c : Command) : Type 0 where
  pub limits : Limits
  pub name : List ℕ
  pub given : List (List ℕ)
  pub taken : fault_of circ_app words ≡ []
  pub finds : Finds (matches_of circ_app words) limits name given
  pub is : IsCommand limits name given c

abbrev pub IsNoCommand : List (List ℕ) → Type 0
IsNoCommand words = (c : Command) → Asks words c → ⊥

-- the name under which a command stores a file
abbrev pub stored_name : Command → Option (List ℕ)
stored_name (Check report theory proof) = None
stored_name (Prove limits theory script proof) = Some proof
stored_name (Show theory) = None
stored_name (Contexts budget theory) = None
stored_name (Reduce budget theory script) = None
stored_name (Same first second) = None
stored_name (Differ limits theory script) = None
stored_name (Trace limits theory script) = None
stored_name (Regex limits left right proof) = Some proof
stored_name (Upgrade theory proof new) = Some new
stored_name (Expand theory proof goal derivatives) = None
stored_name (Library text) = None
stored_name (Generate n) = None

-- a command that stores nothing, and whose work has status 0 or is refused
abbrev pub IsReport : Command → Type 0
IsReport (Prove limits theory script proof) = ⊥
IsReport (Same first second) = ⊥
IsReport (Differ limits theory script) = ⊥
IsReport (Trace limits theory script) = ⊥
IsReport (Regex limits left right proof) = ⊥
IsReport (Upgrade theory proof new) = ⊥
IsReport (Generate n) = ⊥
IsReport c = Unit {0}

-- looking for a difference makes no more Derives than an option may say
abbrev pub IsBounded : Command → Type 0
IsBounded (Differ limits theory script) = limits.derives ≤ 10000
IsBounded c = Unit {0}

-- No command that the words ask for stores under this name.
abbrev pub IsNotStored : (words : List (List ℕ)) → (name : List ℕ) → Type 0
IsNotStored words name = (c : Command) → Asks words c → stored_name c ≡ Some name → ⊥

-- what a request in memory asks for
abbrev pub plain_request : Request → Command
plain_request (request.Check report theory proof) = Check report theory.now proof.now
plain_request (request.Prove limits theory script proof) = Prove limits theory.now script.now proof.now
plain_request (request.Show theory) = Show theory.now
plain_request (request.Contexts budget theory) = Contexts budget theory.now
plain_request (request.Reduce budget theory script) = Reduce budget theory.now script.now
plain_request (request.Same first second) = Same first.now second.now
plain_request (request.Differ limits theory script) = Differ limits theory.now script.now
plain_request (request.Trace limits theory script) = Trace limits theory.now script.now
plain_request (request.Regex limits left right proof) = Regex limits left.now right.now proof.now
plain_request (request.Upgrade theory proof new) = Upgrade theory.now proof.now new.now
plain_request (request.Expand theory proof goal derivatives) = Expand theory.now proof.now goal derivatives.items
plain_request (request.Library text) = Library text.now
plain_request (request.Generate n) = Generate n
