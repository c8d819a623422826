-- The rules of circular coinduction on a list of hypotheses and a list of goals (`StepOf`): Simplify, Reduce, Derive, Cases and Done.
use Rattle.std.specs.Prelude.{◌≡◌, ◌≤◌, ◌<◌, ◌+◌, ◌^◌, ℕ, List, [], ◌∷◌, ◌++◌, map, length, Some}
use Rattle.std.specs.List.{AllByRecursion}
use Rattle.circ_term.specs.Tree.{Tree, sort_of}
use Rattle.circ_term.specs.Limits.{IsWithinLimits}
use Rattle.circ_theory.specs.Limits.{condition_limit}
use Rattle.circ_theory.specs.Theory.{Theory, Pair, goal, sides, Derivative, CaseList, IsHidden}
use Rattle.circ_theory.specs.Derivable.{is_case}
use Rattle.circ_theory.specs.Experiment.{derived}
use Rattle.circ_theory.specs.Observing.{parameters_in, cases_of, case_list}
use Rattle.circ_theory.specs.Goal.{Goal}
use Rattle.circ_special.specs.declared.place.Place.{Place}
use Rattle.circ_proof.specs.Plain.{ChainOf, WhyOf, map_chain, map_why}
use Rattle.circ_proof.specs.Goals.{AreSortedGoals, with_cond}
use Rattle.circ_proof.specs.Runs.{Runs}
use Rattle.circ_proof.specs.Link.{setting, Leads}
use Rattle.circ_proof.specs.Justified.{ChainLeads, Justified, AllOfChain, AllOfWhy}
use Rattle.circ_theory.specs.Fresh.{fresh_in, numbered_from, derivatives_of}

-- what is taken as proved, and what is still to be proved, in order
pub record State : Type 0 where
  pub hypotheses : List Goal
  pub goals : List Goal

abbrev pub state : (hypotheses goals : List Goal) → State
state H G = record { hypotheses = H; goals = G }

abbrev pub IsSortedState : Theory → State → Type 0
IsSortedState th a = AreSortedGoals th a.hypotheses × AreSortedGoals th a.goals

-- a step of a proof, with terms or their numbers in a table
pub data ProofStep (T : Type 0) : Type 0 where
  Simplify : (chain : ChainOf T) → ProofStep T
  Reduce : (why : WhyOf T) → ProofStep T
  Derive : ProofStep T
  Cases : (term : T) → ProofStep T
  Done : ProofStep T

abbrev pub map_step : {T U : Type 0} → (T → U) → ProofStep T → ProofStep U
map_step f (Simplify chain) = Simplify (map_chain f chain)
map_step f (Reduce why) = Reduce (map_why f why)
map_step f Derive = Derive
map_step f (Cases term) = Cases (f term)
map_step f Done = Done

-- each term that the step names has the property
abbrev pub AllOfStep : {T : Type 0} → (T → Type 0) → ProofStep T → Type 0
AllOfStep P (Simplify chain) = AllOfChain P chain
AllOfStep P (Reduce why) = AllOfWhy P why
AllOfStep P Derive = Unit {0}
AllOfStep P (Cases term) = P term
AllOfStep P Done = Unit {0}

-- the derivative on both sides of a goal, its parameters as variables numbered from k; the conditions stay
abbrev pub derived_goal : Derivative → Goal → ℕ → Goal
derived_goal d g k = goal g.conds (derived d g.left (numbered_from k)) (derived d g.right (numbered_from k))

-- the derivatives of a goal: that of each derivative of its sort, with fresh parameters
abbrev pub derivatives_on : Theory → Goal → List Goal
derivatives_on th g = map (λ d. derived_goal d g (fresh_in g)) (derivatives_of th (sort_of g.left))

-- the derivative on the goal is within the limits, and so are its parameters' numbers
pub record IsDerivable (g : Goal) (d : Derivative) : Type 0 where
  pub numbers : fresh_in g + length (parameters_in d.body) ≤ 2 ^ 32
  pub left : IsWithinLimits (derived d g.left (numbered_from (fresh_in g)))
  pub right : IsWithinLimits (derived d g.right (numbered_from (fresh_in g)))

-- the goal in each case of a term, in the list's order
abbrev pub cases_on : Goal → (term : Tree) → CaseList → List Goal
cases_on g u l = map (λ k. with_cond g (is_case u l k)) l.constants

-- Each rule but Done acts on the first goal, with its conditions as assumptions. Simplify rewrites it, Reduce drops it where it is justified, Derive makes it
-- a hypothesis and appends its derivatives to the goals, Cases puts in its place the goal in each case of a term, and Done needs that no goal is left.
abbrev pub StepOn : Theory → List Place → ProofStep Tree → (hypotheses goals : List Goal) → State → Type 0
StepOn th G (Simplify chain) H [] b = ⊥
StepOn th G (Simplify chain) H (g ∷ gs) b =
    (q : Pair) × ChainLeads (Leads (setting th G H g.conds)) chain (sides g) q × (b ≡ state H (goal g.conds q.left q.right ∷ gs))
StepOn th G (Reduce why) H [] b = ⊥
StepOn th G (Reduce why) H (g ∷ gs) b = Justified (setting th G H g.conds) (sides g) why × (b ≡ state H gs)
StepOn th G Derive H [] b = ⊥
StepOn th G Derive H (g ∷ gs) b =
    IsHidden th (sort_of g.left) × AllByRecursion (IsDerivable g) (derivatives_of th (sort_of g.left)) × (b ≡ state (H ++ g ∷ []) (gs ++ derivatives_on th g))
StepOn th G (Cases u) H [] b = ⊥
StepOn th G (Cases u) H (g ∷ gs) b =
    (ks : List ℕ) × (cases_of th (sort_of u) ≡ Some ks) × (length g.conds < condition_limit) × (b ≡ state H (cases_on g u (case_list (sort_of u) ks) ++ gs))
StepOn th G Done H [] b = b ≡ state H []
StepOn th G Done H (g ∷ gs) b = ⊥

-- the step leads from state a to state b
abbrev pub StepOf : Theory → List Place → ProofStep Tree → State → State → Type 0
StepOf th G step a b = StepOn th G step a.hypotheses a.goals b

-- the steps lead from a to b, one after the other
abbrev pub StepsOf : Theory → List Place → List (ProofStep Tree) → State → State → Type 0
StepsOf th G steps a b = Runs (StepOf th G) steps a b
