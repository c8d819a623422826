-- What contracts see of a checker that takes parts.
use Rattle.std.specs.Prelude.{◌≡◌, ◌≢◌, ◌≤◌, ℕ, Bool, true, false, List, ◌∷◌, [], ◌++◌, length, map, take, Option}
use Rattle.std.specs.List.{AllByRecursion}
use Rattle.circ_term.specs.Tree.{Tree}
use Rattle.circ_theory.specs.Theory.{Theory, goal_of}
use Rattle.circ_theory.specs.WellFormed.{IsWellFormed}
use Rattle.circ_theory.specs.Goal.{Goal}
use Rattle.circ_proof.specs.Rules.{IsSortedState}
use Rattle.circ_proof.specs.Proof.{Proof, ProofFor}
use Rattle.circ_proof.specs.Parts.{Part, Head, Certificate, Goals, Step, parts_of}
use Rattle.circ_proof.specs.Fitting.{Fit}
use Rattle.circ_rules.specs.Due.{due_after}
use Rattle.circ_nodes.specs.Built.{AreBuilt}
use Rattle.circ_shared.specs.Patterns.{goal_at, IsPattern}
use Rattle.circ_shared.specs.declared.patterns.Pattern.{Pattern}
use Rattle.circ_steps.specs.Derivatives.{AreDerivativesAt}
use Rattle.circ_steps.specs.declared.derivative.SharedDerivative.{SharedDerivative}
use Rattle.circ_steps.specs.States.{state_at, IsStateThere}
use Rattle.circ_entering.specs.Lines.{lines_at, AreLinesAt, LinesStay}
use Rattle.circ_entering.specs.declared.lines.NamedLines.{NamedLines}
use Rattle.circ_check.specs.Checking.{Checking, TakesPart, StandFor, with_one, with_failure, with_derived}
use Rattle.circ_check.specs.Deciding.{plain_list}
use Rattle.circ_check.specs.declared.checker.Checker.{Checker}

abbrev pub failed_of : Checker → Option ℕ
failed_of k = k.tally.failed

abbrev pub derived_of : Checker → List (List Goal)
derived_of k = map plain_list k.derived.items

-- memory ran out in an earlier call
abbrev pub IsSpent : Checker → Type 0
IsSpent k = k.is_spent ≡ true

-- what it has taken, with the terms of its numbers
abbrev pub checking_of : Checker → Checking
checking_of k = record {
  table = lines_at k.nodes k.lines;
  places = k.gamma;
  due = due_after k.theory.now k.gamma k.due;
  before = take k.earlier (map (goal_at k.nodes) k.state.hyps.items);
  own = map (goal_at k.nodes) k.own.items;
  state = state_at k.nodes k.state;
  stopped = k.is_stopped;
  tally = k.tally;
  derived = derived_of k;
}

-- What a block that ends leaves stands among these terms: the lines that are not late, the hypotheses of earlier blocks, and the block's own goals.
pub record StaysIn (nodes : List Tree) (lines : NamedLines) (hyps goals : List Pattern) : Type 0 where
  pub lines_stay : LinesStay nodes lines
  pub earlier : AllByRecursion (IsPattern nodes) hyps
  pub own : AllByRecursion (IsPattern nodes) goals

-- the equations and the derivatives by number are those of the theory
pub record KnowsTheory (th : Theory) (nodes : List Tree) (es : List Pattern) (ds : List SharedDerivative) : Type 0 where
  pub equations : map (goal_at nodes) es ≡ map goal_of th.equations
  pub patterns : AllByRecursion (IsPattern nodes) es
  pub derivatives : AreDerivativesAt nodes th.derivatives ds

-- what a checker keeps true that has memory
pub record IsSound (th : Theory) (k : Checker) : Type 0 where
  pub theory : k.theory.now ≡ th
  pub unspent : k.is_spent ≡ false
  pub within : k.earlier ≤ length k.state.hyps.items
  pub base : k.base ≤ length k.nodes
  pub lines : AreLinesAt k.nodes k.lines
  pub stays : StaysIn (take k.base k.nodes) k.lines (take k.earlier k.state.hyps.items) k.own.items
  pub state : IsStateThere k.nodes k.state
  pub built : AreBuilt k.nodes k.terms
  pub sorted : IsSortedState th (state_at k.nodes k.state)
  pub begun : k.is_begun ≡ true → KnowsTheory th (take k.base k.nodes) k.equations.items k.derivatives.items

-- The checker has taken these parts.
pub record Stands (th : Theory) (xs : List Part) (k : Checker) : Type 0 where
  pub sound : IsSound th k
  pub begun : xs ≢ [] → k.is_begun ≡ true
  pub checking : StandFor th xs (checking_of k)

-- It has taken all parts of a proof that fits but these, which come last.
pub record HasLeft (th : Theory) (p : Proof) (ys : List Part) (k : Checker) : Type 0 where
  pub theory : IsWellFormed th
  pub fits : ProofFor th p
  pub taken : List Part
  pub all : parts_of p ≡ taken ++ ys
  pub stands : Stands th taken k

-- the part fits behind those that were taken
abbrev pub FitsNext : Part → Checker → Type 0
FitsNext x k = (th : Theory) × (xs : List Part) × Stands th xs k × Fit th (xs ++ x ∷ [])

-- a part other than the head comes behind it
abbrev pub IsBehindHead : Part → Checker → Type 0
IsBehindHead (Head table places) k = Unit {0}
IsBehindHead (Certificate links) k = k.is_begun ≡ true
IsBehindHead (Goals goals names) k = k.is_begun ≡ true
IsBehindHead (Step step) k = k.is_begun ≡ true

-- what is found and what was derived is as before
pub record IsAsBefore (old new : Checker) : Type 0 where
  pub failed : failed_of new ≡ failed_of old
  pub derived : derived_of new ≡ derived_of old

-- the part is taken
pub record Took (th : Theory) (x : Part) (old new : Checker) : Type 0 where
  pub sound : IsSound th new
  pub begun : new.is_begun ≡ true
  pub taken : TakesPart th x (checking_of old) (checking_of new)

-- The block's own goals stand behind the hypotheses of earlier blocks, no goal is left, and the terms of its steps are gone.
pub record EndsBlock (old new : Checker) : Type 0 where
  pub nodes : new.nodes ≡ take old.base old.nodes
  pub hyps : new.state.hyps.items ≡ take old.earlier old.state.hyps.items ++ old.own.items
  pub goals : new.state.goals.items ≡ []
  pub own : new.own.items ≡ []
  pub earlier : new.earlier ≡ length new.state.hyps.items
  pub built : AreBuilt new.nodes new.terms
  pub others : new ≡ record old { nodes = new.nodes; state = new.state; earlier = new.earlier; own = new.own; terms = new.terms }

-- A step was tried: it is counted, and where it holds, what it made a hypothesis is listed; after one that failed no step is done.
abbrev pub Notes : (holds : Bool) → (made : List Goal) → (old new : Checker) → Type 0
Notes true made old new =
    (new ≡ record old { tally = with_one old.tally; derived = new.derived }) × (derived_of new ≡ with_derived (derived_of old) made)
Notes false made old new = new ≡ record old { is_stopped = true; tally = with_failure old.tally }
