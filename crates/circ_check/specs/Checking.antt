-- What a checker keeps that takes the parts of a proof one after the other, and what a part makes of it.
use Rattle.std.specs.Prelude.{◌≡◌, ◌⊎◌, ◌+◌, ℕ, Bool, true, false, List, [], ◌∷◌, ◌++◌, Option, Some, None}
use Rattle.std.specs.Option.{option_or}
use Rattle.circ_term.specs.Tree.{Tree}
use Rattle.circ_theory.specs.Theory.{Theory, Derivative}
use Rattle.circ_theory.specs.Rewriting.{named}
use Rattle.circ_theory.specs.Goal.{Goal}
use Rattle.circ_special.specs.declared.place.Place.{Place}
use Rattle.circ_proof.specs.Plain.{LinkOf}
use Rattle.circ_proof.specs.Link.{resolved_links}
use Rattle.circ_proof.specs.Runs.{Runs}
use Rattle.circ_proof.specs.Rules.{State, state, ProofStep, Simplify, Reduce, Derive, Cases, Done, map_step, StepOf}
use Rattle.circ_proof.specs.Certified.{Certified, due}
use Rattle.circ_proof.specs.Parts.{Part, Head, Certificate, Goals, Step}
use Rattle.circ_check.specs.declared.tally.Tally.{Tally}

-- The table and the special set, the certificates that are still due, the goals of the blocks before this one and its own, the state, whether a step has
-- failed, how many certificates and steps there were and the first that failed, and what each block has derived.
pub record Checking : Type 0 where
  pub table : List Tree
  pub places : List Place
  pub due : List (Place × Derivative)
  pub before : List Goal
  pub own : List Goal
  pub state : State
  pub stopped : Bool
  pub tally : Tally
  pub derived : List (List Goal)

abbrev pub no_tally : Tally
no_tally = record { count = 0; failed = None }

-- one more, which holds or comes after a failure
abbrev pub with_one : Tally → Tally
with_one t = record { count = t.count + 1; failed = t.failed }

-- one more, which fails
abbrev pub with_failure : Tally → Tally
with_failure t = record { count = t.count + 1; failed = option_or t.failed (Some (t.count + 1)) }

-- one more, which holds or fails
abbrev pub counted : (holds : Bool) → Tally → Tally
counted true t = with_one t
counted false t = with_failure t

abbrev pub nothing_taken : Checking
nothing_taken = record {
  table = [];
  places = [];
  due = [];
  before = [];
  own = [];
  state = state [] [];
  stopped = false;
  tally = no_tally;
  derived = [];
}

-- The certificate that is due next holds, or it fails.
abbrev pub TakesCertificate : Theory → Checking → List (Place × Derivative) → List (LinkOf Tree) → Checking → Type 0
TakesCertificate th c [] ls d = ⊥
TakesCertificate th c (x ∷ xs) ls d =
    (Certified th c.places x.0 x.1 ls × (d ≡ record c { due = xs; tally = with_one c.tally }))
    ⊎ ((Certified th c.places x.0 x.1 ls → ⊥) × (d ≡ record c { due = xs; tally = with_failure c.tally }))

-- A block begins with the goals of all earlier blocks as hypotheses, and has derived nothing. After a step that failed no block is begun.
abbrev pub TakesGoals : Checking → (stopped : Bool) → List Goal → Checking → Type 0
TakesGoals c true gs d = d ≡ record c { derived = c.derived ++ [] ∷ [] }
TakesGoals c false gs d =
    d ≡ record c { before = c.before ++ c.own; own = gs; state = state (c.before ++ c.own) gs; derived = c.derived ++ [] ∷ [] }

-- what the step makes a hypothesis, if it holds
abbrev pub made_by : ProofStep ℕ → (goals : List Goal) → List Goal
made_by (Simplify chain) gs = []
made_by (Reduce why) gs = []
made_by Derive [] = []
made_by Derive (g ∷ gs) = g ∷ []
made_by (Cases term) gs = []
made_by Done gs = []

abbrev pub goals_in : Option Goal → List Goal
goals_in None = []
goals_in (Some g) = g ∷ []

-- the last list with these goals behind its own
abbrev pub with_derived : List (List Goal) → List Goal → List (List Goal)
with_derived [] gs = []
with_derived (ds ∷ []) gs = (ds ++ gs) ∷ []
with_derived (ds ∷ es ∷ dss) gs = ds ∷ with_derived (es ∷ dss) gs

-- The step leads to a state, or it fails. After a step that failed it is counted alone.
abbrev pub TakesStep : Theory → Checking → (stopped : Bool) → ProofStep ℕ → Checking → Type 0
TakesStep th c true s d = d ≡ record c { tally = with_one c.tally }
TakesStep th c false s d =
    ((b : State) × StepOf th c.places (map_step (named c.table) s) c.state b
    × (d ≡ record c { state = b; tally = with_one c.tally; derived = with_derived c.derived (made_by s c.state.goals) }))
    ⊎ (((b : State) → StepOf th c.places (map_step (named c.table) s) c.state b → ⊥)
    × (d ≡ record c { stopped = true; tally = with_failure c.tally }))

abbrev pub TakesPart : Theory → Part → Checking → Checking → Type 0
TakesPart th (Head table places) c d = d ≡ record c { table = table; places = places; due = due th places }
TakesPart th (Certificate links) c d = TakesCertificate th c c.due (resolved_links c.table links) d
TakesPart th (Goals goals names) c d = TakesGoals c c.stopped goals d
TakesPart th (Step step) c d = TakesStep th c c.stopped step d

-- what is kept after these parts, by `Certified` and `StepOf`
abbrev pub StandFor : Theory → List Part → Checking → Type 0
StandFor th xs c = Runs (TakesPart th) xs nothing_taken c
