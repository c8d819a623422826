-- The derivatives of a goal, one by one.
use Rattle.std.proofs.Common.{◌≡◌, ℕ, ◌+◌, ◌≤◌, ◌<◌, ◌^◌, true, false, ◌==◌, if◌then◌else◌, List, [], ◌∷◌, ◌++◌, map, length, Option, Some, None, Result, Ok, Err, refl, ap, sym, subst, ◌∙◌, arith, append_assoc}
use Rattle.std.specs.List.{slice_get}
use Rattle.std.specs.Option.{IfSome, option_map, option_map_or, option_or}
use Rattle.std.proofs.lemmas.Bool.{lt-ltb, le-ltb}
use Rattle.std.proofs.lemmas.List.{drop_all, length-map}
use Rattle.std.specs.List.{filter}
use Rattle.circ_term.specs.Tree.{Tree, sort_of}
use Rattle.circ_term.specs.Limits.{Limit, first_limit, IsWithinLimits, Names}
use Rattle.circ_term.specs.declared.fault.TermFault.{TermFault}
use Rattle.circ_term.specs.declared.fault.TermFault.TheVariants as term
use Rattle.circ_theory.specs.Theory.{Theory, Derivative, goal, IsWellSortedGoal}
use Rattle.circ_theory.specs.WellFormed.{IsWellFormed}
use Rattle.circ_theory.specs.Variables.{Variable, occurrences}
use Rattle.circ_theory.specs.Observing.{is_parameter, parameters_in}
use Rattle.circ_theory.specs.Experiment.{derived}
use Rattle.circ_theory.specs.Fresh.{fresh_in, numbered_from, given_parameters, parameter_sorts, variables_from, derivatives_of}
use Rattle.circ_theory.specs.Goal.{Goal}
use Rattle.circ_proof.specs.Rules.{derived_goal, derivatives_on}
use Rattle.circ_proof.proofs.Derivatives.{if_some_at, some_if_at, the_derivative, numbered, sorts_are, derivative_at, from_number, taken_next, passed_next}
use Rattle.circ_rules.specs.Derivatives.{Cause, No_numbers, Past, sides_limit, cause_on, first_cause, limit_in, NamesCause, MakesDerivative, MakesDerivatives}
use Rattle.circ_rules.specs.Derivatives.{instances_on, BuildsBoth}
use Rattle.circ_rules.specs.declared.fault.DeriveFault.{DeriveFault}
use Rattle.circ_rules.specs.declared.fault.DeriveFault.TheVariants as fault

-- ---- both sides of one derivative

pub left_fails : (g : Goal) (e : TermFault) → Names e (first_limit g.left) → BuildsBoth g (Err e)
left_fails g (term.TooBig n) h = rw h refl
left_fails g (term.TooDeep n) h = rw h refl
left_fails g term.Memory h = tt

pub right_fails : (g : Goal) (e : TermFault) → IsWithinLimits g.left → Names e (first_limit g.right) → BuildsBoth g (Err e)
right_fails g (term.TooBig n) w h = rw (w, h) refl
right_fails g (term.TooDeep n) w h = rw (w, h) refl
right_fails g term.Memory w h = tt

pub both_built : (g h : Goal) → h.conds ≡ g.conds → h.left ≡ g.left → h.right ≡ g.right → IsWithinLimits g.left → IsWithinLimits g.right → BuildsBoth g (Ok h)
both_built g h e a b wl wr =
    (ap (λ x. goal x h.left h.right) e ∙ ap (λ x. goal g.conds x h.right) a ∙ ap (goal g.conds g.left) b, rw (wl, wr) refl)

-- what a limit comes to, as a cause
limit_of_past : (o : Option Limit) → limit_in (option_map Past o) ≡ o
limit_of_past None = refl
limit_of_past (Some l) = refl

-- ---- one derivative, with variables numbered from k for its parameters

module _ (th : Theory) (ok : IsWellFormed th) (n : ℕ) (g : Goal) (w : IsWellSortedGoal th g) (k : ℕ) (fresh : k ≡ fresh_in g)
    (hole : option_map (λ d. d.hole) (slice_get th.derivatives n) ≡ Some (sort_of g.left)) (sorts : List ℕ)
    (listed : Some sorts ≡ option_map parameter_sorts (slice_get th.derivatives n)) where
  abbrev d : Derivative
  d = (the_derivative (slice_get th.derivatives n) (sort_of g.left) hole).0

  there : slice_get th.derivatives n ≡ Some d
  there = (the_derivative (slice_get th.derivatives n) (sort_of g.left) hole).1

  -- so many parameters are numbered
  as_many : fresh_in g + length (parameters_in d.body) ≡ k + length sorts
  as_many =
      let vs : List Variable = filter is_parameter (occurrences d.body) in
      let are_sorts : sorts ≡ parameter_sorts d = sorts_are th ok n g w k fresh hole sorts listed (variables_from k sorts) refl in
      omega (arith, fresh, ap length are_sorts, length-map vs (λ v. v.sort), length-map vs (λ v. v.number))

  pub no_numbers : 2 ^ 32 < k + length sorts → IfSome (slice_get th.derivatives n) (λ x. MakesDerivative g x (Err fault.Numbers))
  no_numbers h =
      if_some_at (λ x. MakesDerivative g x (Err fault.Numbers)) (slice_get th.derivatives n) d there
      (ap (λ b. if b then Some No_numbers else option_map Past (sides_limit (derived_goal d g (fresh_in g))))
      (lt-ltb (2 ^ 32) (fresh_in g + length (parameters_in d.body)) (omega (arith, as_many, h))))

  numbers_left : k + length sorts ≤ 2 ^ 32 → cause_on g d ≡ option_map Past (sides_limit (derived_goal d g (fresh_in g)))
  numbers_left h =
      ap (λ b. if b then Some No_numbers else option_map Past (sides_limit (derived_goal d g (fresh_in g))))
      (le-ltb (2 ^ 32) (fresh_in g + length (parameters_in d.body)) (omega (arith, as_many, h)))

  module _ (few : k + length sorts ≤ 2 ^ 32) (params : List Tree) (made : params ≡ variables_from k sorts) where
    same : instances_on d params g ≡ derived_goal d g (fresh_in g)
    same =
        let renumbered = numbered th ok n g w k fresh hole sorts listed params made in
        ap (λ x. goal g.conds x (derived d g.right (given_parameters params))) (renumbered g.left)
        ∙ ap (goal g.conds (derived d g.left (numbered_from (fresh_in g)))) (renumbered g.right)

    built : (r : Result Goal TermFault) → IfSome (slice_get th.derivatives n) (λ x. BuildsBoth (instances_on x params g) r)
        → BuildsBoth (derived_goal d g (fresh_in g)) r
    built r h =
        let P : Goal → Type 0 = λ q. BuildsBoth q r in
        subst P same (some_if_at (λ x. BuildsBoth (instances_on x params g) r) (slice_get th.derivatives n) d there h)

    pub is_made : (h : Goal) → IfSome (slice_get th.derivatives n) (λ x. BuildsBoth (instances_on x params g) (Ok h))
        → IfSome (slice_get th.derivatives n) (λ x. MakesDerivative g x (Ok h))
    is_made h m =
        let b : BuildsBoth (derived_goal d g (fresh_in g)) (Ok h) = built (Ok h) m in
        if_some_at (λ x. MakesDerivative g x (Ok h)) (slice_get th.derivatives n) d there (numbers_left few ∙ ap (option_map Past) b.1, b.0)

    pub is_not_made : (e : TermFault) → IfSome (slice_get th.derivatives n) (λ x. BuildsBoth (instances_on x params g) (Err e))
        → IfSome (slice_get th.derivatives n) (λ x. MakesDerivative g x (Err (fault.Term e)))
    is_not_made e m =
        let P : Option Limit → Type 0 = λ o. Names e o in
        if_some_at (λ x. MakesDerivative g x (Err (fault.Term e))) (slice_get th.derivatives n) d there
        (subst P (sym (ap limit_in (numbers_left few) ∙ limit_of_past (sides_limit (derived_goal d g (fresh_in g))))) (built (Err e) m))

    pub is_without_memory : IfSome (slice_get th.derivatives n) (λ x. MakesDerivative g x (Err (fault.Term term.Memory)))
    is_without_memory = if_some_at (λ x. MakesDerivative g x (Err (fault.Term term.Memory))) (slice_get th.derivatives n) d there tt

-- ---- one derivative after another

-- What the loop keeps: the derivatives from a number on are what is left, nothing stands in the way of those before, and hs are these.
pub record Stands (th : Theory) (g : Goal) (i : ℕ) (hs : List Goal) : Type 0 where
  pub cause : first_cause g (derivatives_of th (sort_of g.left)) ≡ first_cause g (from_number th.derivatives (sort_of g.left) i)
  pub derived : hs ++ map (λ d. derived_goal d g (fresh_in g)) (from_number th.derivatives (sort_of g.left) i) ≡ derivatives_on th g

pub stands_taken : (th : Theory) (g : Goal) (i : ℕ) (hs : List Goal) (h : Goal) → i < length th.derivatives
    → option_map_or (λ d. d.hole == sort_of g.left) (slice_get th.derivatives i) false ≡ true
    → IfSome (slice_get th.derivatives i) (λ d. MakesDerivative g d (Ok h)) → Stands th g i hs → Stands th g (i + 1) (hs ++ h ∷ [])
stands_taken th g i hs h within e made st =
    let ds : List Derivative = th.derivatives in
    let at = derivative_at ds i within in
    let x = some_if_at (λ d. MakesDerivative g d (Ok h)) (slice_get ds i) at.0 at.1.there made in
    let next = taken_next ds (sort_of g.left) i at.0 at.1 e in
    let rest : List Derivative = from_number ds (sort_of g.left) (i + 1) in
    let f : Derivative → Goal = λ d. derived_goal d g (fresh_in g) in
    record {
      cause = st.cause ∙ ap (first_cause g) next ∙ ap (λ o. option_or o (first_cause g rest)) x.0;
      derived = append_assoc hs (h ∷ []) (map f rest) ∙ ap (λ y. hs ++ y ∷ map f rest) x.1 ∙ sym (ap (λ ds. hs ++ map f ds) next) ∙ st.derived;
    }

pub stands_passed : (th : Theory) (g : Goal) (i : ℕ) (hs : List Goal) → i < length th.derivatives
    → option_map_or (λ d. d.hole == sort_of g.left) (slice_get th.derivatives i) false ≡ false → Stands th g i hs → Stands th g (i + 1) hs
stands_passed th g i hs within e st =
    let at = derivative_at th.derivatives i within in
    let next = passed_next th.derivatives (sort_of g.left) i at.0 at.1 e in
    let f : Derivative → Goal = λ d. derived_goal d g (fresh_in g) in
    record { cause = st.cause ∙ ap (first_cause g) next; derived = sym (ap (λ ds. hs ++ map f ds) next) ∙ st.derived }

pub stands_stopped : (th : Theory) (g : Goal) (i : ℕ) (hs : List Goal) (e : DeriveFault) → i < length th.derivatives
    → option_map_or (λ d. d.hole == sort_of g.left) (slice_get th.derivatives i) false ≡ true
    → IfSome (slice_get th.derivatives i) (λ d. MakesDerivative g d (Err e)) → Stands th g i hs → MakesDerivatives th g (Err e)
stands_stopped th g i hs e within t made st =
    let at = derivative_at th.derivatives i within in
    let x = some_if_at (λ d. MakesDerivative g d (Err e)) (slice_get th.derivatives i) at.0 at.1.there made in
    let next = taken_next th.derivatives (sort_of g.left) i at.0 at.1 t in
    let P : Option Cause → Type 0 = λ o. NamesCause e o in
    subst P (sym (st.cause ∙ ap (first_cause g) next)) (go e (cause_on g at.0) (first_cause g (from_number th.derivatives (sort_of g.left) (i + 1))) x)
  where
    go : (e : DeriveFault) (a b : Option Cause) → NamesCause e a → NamesCause e (option_or a b)
    go fault.Numbers (Some c) b h = h
    go fault.Numbers None b h = absurd (cc)
    go (fault.Term (term.TooBig n)) (Some c) b h = h
    go (fault.Term (term.TooBig n)) None b h = absurd (cc)
    go (fault.Term (term.TooDeep n)) (Some c) b h = h
    go (fault.Term (term.TooDeep n)) None b h = absurd (cc)
    go (fault.Term term.Memory) a b h = tt

pub stands_start : (th : Theory) (g : Goal) (hs : List Goal) → hs ≡ [] → Stands th g 0 hs
stands_start th g hs e =
    record { cause = refl; derived = ap (λ x. x ++ map (λ d. derived_goal d g (fresh_in g)) (from_number th.derivatives (sort_of g.left) 0)) e }

pub stands_end : (th : Theory) (g : Goal) (i : ℕ) (hs : List Goal) → length th.derivatives ≤ i → Stands th g i hs
    → (first_cause g (derivatives_of th (sort_of g.left)) ≡ None) × (hs ≡ derivatives_on th g)
stands_end th g i hs h s =
    let f : Derivative → Goal = λ d. derived_goal d g (fresh_in g) in
    let gone : from_number th.derivatives (sort_of g.left) i ≡ []
    = ap (filter (λ d. d.hole == sort_of g.left)) (drop_all i th.derivatives h) in
    (s.cause ∙ ap (first_cause g) gone, sym (nil_right hs) ∙ sym (ap (λ ds. hs ++ map f ds) gone) ∙ s.derived)
  where
    nil_right : (xs : List Goal) → xs ++ [] ≡ xs
    nil_right [] = refl
    nil_right (x ∷ xs) = ap (λ r. x ∷ r) (nil_right xs)
