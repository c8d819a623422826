-- The derivatives of a goal of a search: there are numbers for all parameters, so a limit is all that can stand in their way.
use Rattle.std.proofs.Common.{◌≡◌, ◌+◌, ◌≤◌, ◌^◌, ◌==◌, if◌then◌else◌, List, [], ◌∷◌, map, length, Option, Some, None, Ok, Err, refl, ap, sym, subst, ◌∙◌, arith, Global}
use Rattle.std.specs.declared.collections.VecDeque.{VecDeque}
use Rattle.std.proofs.lemmas.Bool.{le-ltb}
use Rattle.std.proofs.lemmas.Option.{same_Some}
use Rattle.std.specs.List.{Contains}
use Rattle.std.specs.Option.{option_map, option_or}
use Rattle.circ_term.specs.Tree.{sort_of}
use Rattle.circ_term.specs.Limits.{Limit, Big, Deep, first_limit, or_else, Names}
use Rattle.circ_term.specs.declared.fault.TermFault.{TermFault}
use Rattle.circ_term.specs.declared.fault.TermFault.TheVariants as term
use Rattle.circ_theory.specs.Theory.{Theory, Derivative}
use Rattle.circ_theory.specs.WellFormed.{IsWellFormed}
use Rattle.circ_theory.specs.Observing.{parameters_in}
use Rattle.circ_theory.specs.Fresh.{fresh_in, derivatives_of}
use Rattle.circ_theory.proofs.Casing.{contains_first}
use Rattle.circ_theory.proofs.Weakening.{in_rest}
use Rattle.circ_theory.specs.Goal.{Goal}
use Rattle.circ_proof.specs.Rules.{derived_goal, derivatives_on}
use Rattle.circ_proof.proofs.Members.{from_filter}
use Rattle.circ_rules.specs.Derivatives.{Cause, No_numbers, Past, sides_limit, cause_on, first_cause, limit_in, MakesDerivatives}
use Rattle.circ_rules.specs.declared.fault.DeriveFault.TheVariants as fault
use Rattle.circ_plain_search.specs.Joining.{Past_limit}
use Rattle.circ_plain_search.specs.Search.{goals_limit, unless_past}
use Rattle.circ_join.specs.Stopping.{Stops, term_stop}
use Rattle.circ_block.specs.Derived.{CanBeDerived, GivesDerivatives}

-- there are numbers for the parameters
abbrev HasNumbers : Goal → Derivative → Type 0
HasNumbers g d = fresh_in g + length (parameters_in d.body) ≤ 2 ^ 32

have_numbers : (th : Theory) → IsWellFormed th → (g : Goal) → fresh_in g + 8 ≤ 2 ^ 32 → (d : Derivative) → Contains (derivatives_of th (sort_of g.left)) d
    → HasNumbers g d
have_numbers th ok g room d c =
    let few = (ok.derivatives d (from_filter (λ d. d.hole == sort_of g.left) th.derivatives d c).0).few in
    omega (arith, room, few)

cause_is_limit : (g : Goal) (d : Derivative) → HasNumbers g d → cause_on g d ≡ option_map Past (sides_limit (derived_goal d g (fresh_in g)))
cause_is_limit g d h =
    ap (λ b. if b then Some No_numbers else option_map Past (sides_limit (derived_goal d g (fresh_in g))))
    (le-ltb (2 ^ 32) (fresh_in g + length (parameters_in d.body)) h)

-- So the first cause is the first limit.
causes_are_limits : (g : Goal) (ds : List Derivative) → ((d : Derivative) → Contains ds d → HasNumbers g d)
    → first_cause g ds ≡ option_map Past (goals_limit (map (λ d. derived_goal d g (fresh_in g)) ds))
causes_are_limits g [] h = refl
causes_are_limits g (d ∷ ds) h =
    let q : Goal = derived_goal d g (fresh_in g) in
    let others : Option Limit = goals_limit (map (λ d. derived_goal d g (fresh_in g)) ds) in
    ap (λ o. option_or o (first_cause g ds)) (cause_is_limit g d (h d (contains_first d ds)))
    ∙ ap (option_or (option_map Past (sides_limit q))) (causes_are_limits g ds (λ x c. h x (in_rest d x ds c)))
    ∙ go (first_limit q.left) (first_limit q.right) others
  where
    go : (l r o : Option Limit) → option_or (option_map Past (or_else l r)) (option_map Past o) ≡ option_map Past (or_else l (or_else r o))
    go None None o = refl
    go None (Some r) o = refl
    go (Some l) r o = refl

module _ (th : Theory) (ok : IsWellFormed th) (g : Goal) (ready : CanBeDerived th g) where
  cause : first_cause g (derivatives_of th (sort_of g.left)) ≡ option_map Past (goals_limit (derivatives_on th g))
  cause = causes_are_limits g (derivatives_of th (sort_of g.left)) (have_numbers th ok g ready.numbers)

  pub are_given : (q : VecDeque Goal Global) → MakesDerivatives th g (Ok q) → GivesDerivatives th g (Ok q)
  are_given q h = go (goals_limit (derivatives_on th g)) (sym cause ∙ h.0)
    where
      go : (o : Option Limit) → option_map Past o ≡ None → unless_past o (derivatives_on th g) ≡ Ok q.items
      go None e = ap Ok (sym h.1)
      go (Some l) e = absurd (cc)

  pub are_not_given : (e : TermFault) → MakesDerivatives th g (Err (fault.Term e)) → GivesDerivatives th g (Err (term_stop e))
  are_not_given e h =
      let P : Option Cause → Type 0 = λ o. Names e (limit_in o) in
      go e (goals_limit (derivatives_on th g)) (subst P cause h)
    where
      go : (e : TermFault) (o : Option Limit) → Names e (limit_in (option_map Past o)) → Stops (unless_past o (derivatives_on th g)) (term_stop e)
      go (term.TooBig n) None h = absurd (cc)
      go (term.TooBig n) (Some l) h = ap (λ x. Err (Past_limit x)) (same_Some l (Big n) h)
      go (term.TooDeep n) None h = absurd (cc)
      go (term.TooDeep n) (Some l) h = ap (λ x. Err (Past_limit x)) (same_Some l (Deep n) h)
      go term.Memory o h = tt

  pub numbers_suffice : MakesDerivatives th g (Err fault.Numbers) → ⊥
  numbers_suffice h = go (goals_limit (derivatives_on th g)) (sym cause ∙ h)
    where
      go : (o : Option Limit) → option_map Past o ≡ Some No_numbers → ⊥
      go None e = absurd (cc)
      go (Some l) e = absurd (cc)
