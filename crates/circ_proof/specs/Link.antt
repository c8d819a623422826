-- What a recorded step of rewriting does to a term (`Link`). Its terms stand in it themselves; in a proof they go by their numbers in the table.
use Rattle.std.specs.Prelude.{◌≡◌, ◌<◌, ℕ, List, [], ◌∷◌, ◌++◌, map, Some}
use Rattle.std.specs.List.{slice_get, AllByRecursion}
use Rattle.circ_term.specs.Tree.{Tree, sort_of}
use Rattle.circ_term.specs.Limits.{IsWithinLimits}
use Rattle.circ_term.specs.Substitution.{Substitution, instance}
use Rattle.circ_theory.specs.Theory.{Theory, Pair, goal_of, IsHidden}
use Rattle.circ_theory.specs.Derivable.{Derivable}
use Rattle.circ_theory.specs.Rewriting.{from_side, to_side, Replaces, named, by_terms, RewritesBy}
use Rattle.circ_theory.specs.Goal.{Equation}
use Rattle.circ_theory.specs.Goal.{Goal}
use Rattle.circ_theory.specs.declared.way.Way.{Way}
use Rattle.circ_special.specs.declared.place.Place.{Place}
use Rattle.circ_special.specs.Special.{IsSpecial}
use Rattle.circ_aci.specs.Content.{HasContentOf}
use Rattle.circ_proof.specs.Plain.{LinkOf, LinksOf, ChainsOf, Equation_link, Hypothesis_link, Assumption_link, Content_link, no_link, more_links, no_chain, more_chains}
use Rattle.circ_proof.specs.Plain.{ChainOf, WhyOf, map_link, map_chain, map_why}

-- What a link is read against: a theory, a special set, hypotheses, and the assumptions: the conditions of a goal, then those of the case splits around it,
-- the outermost first.
pub record Setting : Type 0 where
  pub theory : Theory
  pub places : List Place
  pub hypotheses : List Goal
  pub assumptions : List Pair

abbrev pub setting : Theory → List Place → List Goal → List Pair → Setting
setting th G H A = record { theory = th; places = G; hypotheses = H; assumptions = A }

-- with one assumption more, which goes last
abbrev pub assuming : Setting → Pair → Setting
assuming c p = record c { assumptions = c.assumptions ++ p ∷ [] }

-- The equation is listed, and rewrites t to u.
pub record EquationLeads (c : Setting) (number : ℕ) (way : Way) (path : List ℕ) (terms : List Tree) (t u : Tree) : Type 0 where
  pub equation : Equation
  pub listed : slice_get c.theory.equations number ≡ Some equation
  pub rewrites : RewritesBy (goal_of equation) way path terms t u

-- A hypothesis of hidden sort is used at a special path, and one of visible sort at any path.
pub record HypothesisLeads (c : Setting) (number : ℕ) (way : Way) (path : List ℕ) (terms : List Tree) (t u : Tree) : Type 0 where
  pub hypothesis : Goal
  pub listed : slice_get c.hypotheses number ≡ Some hypothesis
  pub rewrites : RewritesBy hypothesis way path terms t u
  pub special : IsHidden c.theory (sort_of hypothesis.left) → IsSpecial c.places t path

-- An assumption is used as it stands.
pub record AssumptionLeads (c : Setting) (number : ℕ) (way : Way) (path : List ℕ) (t u : Tree) : Type 0 where
  pub assumed : Pair
  pub listed : slice_get c.assumptions number ≡ Some assumed
  pub replaces : Replaces t path (from_side way assumed) (to_side way assumed) u

-- A subterm is replaced by one of its sort that has the same content under the operator, which exists.
pub record ContentLeads (c : Setting) (op : ℕ) (path : List ℕ) (term t u : Tree) : Type 0 where
  pub old : Tree
  pub content : HasContentOf c.theory.signature op old term
  pub replaces : Replaces t path old term u

-- The link leads from t to u. Both sides of each of its conditions, under the substitution that its terms give, are within the limits and lead to one term.
abbrev mutual
  pub Leads : Setting → LinkOf Tree → Tree → Tree → Type 0
  Leads c (Equation_link number way path terms conds) t u =
      (r : EquationLeads c number way path terms t u) × ConditionsLead c (by_terms (goal_of r.equation) terms) r.equation.conds conds
  Leads c (Hypothesis_link number way path terms conds) t u =
      (r : HypothesisLeads c number way path terms t u) × ConditionsLead c (by_terms r.hypothesis terms) r.hypothesis.conds conds
  Leads c (Assumption_link number way path) t u = AssumptionLeads c number way path t u
  Leads c (Content_link op path term) t u = ContentLeads c op path term t u

  -- the links lead from t to u, one after the other
  pub RowLeads : Setting → LinksOf Tree → Tree → Tree → Type 0
  RowLeads c no_link t u = t ≡ u
  RowLeads c (more_links l ls) t u = (m : Tree) × Leads c l t m × RowLeads c ls m u

  -- one chain for each condition
  pub ConditionsLead : Setting → Substitution → (conds : List Pair) → ChainsOf Tree → Type 0
  ConditionsLead c σ [] no_chain = Unit {0}
  ConditionsLead c σ [] (more_chains l r cs) = ⊥
  ConditionsLead c σ (p ∷ ps) no_chain = ⊥
  ConditionsLead c σ (p ∷ ps) (more_chains l r cs) =
      IsWithinLimits (instance σ p.left) × IsWithinLimits (instance σ p.right)
      × ((m : Tree) × RowLeads c l (instance σ p.left) m × RowLeads c r (instance σ p.right) m) × ConditionsLead c σ ps cs

-- A link, links, a chain, a why with the terms of a table for their numbers.

abbrev pub resolved_link : (table : List Tree) → LinkOf ℕ → LinkOf Tree
resolved_link table l = map_link (named table) l

abbrev pub resolved_links : (table : List Tree) → List (LinkOf ℕ) → List (LinkOf Tree)
resolved_links table ls = map (resolved_link table) ls

abbrev pub resolved_chain : (table : List Tree) → ChainOf ℕ → ChainOf Tree
resolved_chain table c = map_chain (named table) c

abbrev pub resolved_why : (table : List Tree) → WhyOf ℕ → WhyOf Tree
resolved_why table w = map_why (named table) w

-- the terms that a link names, then those that the chains of its conditions name
abbrev mutual
  pub terms_of : {T : Type 0} → LinkOf T → List T
  terms_of (Equation_link number way path terms conds) = terms ++ chains_terms conds
  terms_of (Hypothesis_link number way path terms conds) = terms ++ chains_terms conds
  terms_of (Assumption_link number way path) = []
  terms_of (Content_link op path term) = term ∷ []

  pub row_terms : {T : Type 0} → LinksOf T → List T
  row_terms no_link = []
  row_terms (more_links l ls) = terms_of l ++ row_terms ls

  pub chains_terms : {T : Type 0} → ChainsOf T → List T
  chains_terms no_chain = []
  chains_terms (more_chains l r cs) = row_terms l ++ (row_terms r ++ chains_terms cs)

-- each term that the link names has the property, and so for the chains of its conditions
abbrev mutual
  pub AllOfLink : {T : Type 0} → (T → Type 0) → LinkOf T → Type 0
  AllOfLink P (Equation_link number way path terms conds) = AllByRecursion P terms × AllOfChains P conds
  AllOfLink P (Hypothesis_link number way path terms conds) = AllByRecursion P terms × AllOfChains P conds
  AllOfLink P (Assumption_link number way path) = Unit {0}
  AllOfLink P (Content_link op path term) = P term

  pub AllOfRow : {T : Type 0} → (T → Type 0) → LinksOf T → Type 0
  AllOfRow P no_link = Unit {0}
  AllOfRow P (more_links l ls) = AllOfLink P l × AllOfRow P ls

  pub AllOfChains : {T : Type 0} → (T → Type 0) → ChainsOf T → Type 0
  AllOfChains P no_chain = Unit {0}
  AllOfChains P (more_chains l r cs) = AllOfRow P l × AllOfRow P r × AllOfChains P cs

abbrev pub AllOfLinks : {T : Type 0} → (T → Type 0) → List (LinkOf T) → Type 0
AllOfLinks P ls = AllByRecursion (AllOfLink P) ls

-- each number of the link is in a table of this length
abbrev pub IsInTable : (count : ℕ) → LinkOf ℕ → Type 0
IsInTable count l = AllOfLink (λ n. n < count) l

-- no hypothesis occurs in the link, nor in the chains of its conditions
abbrev mutual
  pub UsesNoHypothesis : {T : Type 0} → LinkOf T → Type 0
  UsesNoHypothesis (Equation_link number way path terms conds) = ChainsUseNoHypothesis conds
  UsesNoHypothesis (Hypothesis_link number way path terms conds) = ⊥
  UsesNoHypothesis (Assumption_link number way path) = Unit {0}
  UsesNoHypothesis (Content_link op path term) = Unit {0}

  pub RowUsesNoHypothesis : {T : Type 0} → LinksOf T → Type 0
  RowUsesNoHypothesis no_link = Unit {0}
  RowUsesNoHypothesis (more_links l ls) = UsesNoHypothesis l × RowUsesNoHypothesis ls

  pub ChainsUseNoHypothesis : {T : Type 0} → ChainsOf T → Type 0
  ChainsUseNoHypothesis no_chain = Unit {0}
  ChainsUseNoHypothesis (more_chains l r cs) = RowUsesNoHypothesis l × RowUsesNoHypothesis r × ChainsUseNoHypothesis cs

-- What a link leads to is derivable from the assumptions, where no hypothesis occurs in it.
abbrev pub LinkDerives : Theory → (assumptions : List Pair) → {T : Type 0} → LinkOf T → Tree → Tree → Type 0
LinkDerives th A l t u = UsesNoHypothesis l → Derivable th A t u
