-- What it says of a goal that its derivatives are made, or why not.
use Rattle.std.proofs.Common.{◌≡◌, ◌+◌, ◌^◌, Bool, true, false, nat_lt, if◌then◌else◌, List, [], ◌∷◌, length, Option, Some, None, refl, ap, ◌∙◌}
use Rattle.std.proofs.lemmas.Bool.{ltb-false, le-ltb}
use Rattle.std.specs.List.{AllByRecursion}
use Rattle.std.specs.Option.{option_map, option_or}
use Rattle.circ_term.specs.Limits.{Limit, first_limit, or_else}
use Rattle.circ_theory.specs.Theory.{Derivative}
use Rattle.circ_theory.specs.Observing.{parameters_in}
use Rattle.circ_theory.specs.Experiment.{derived}
use Rattle.circ_theory.specs.Fresh.{fresh_in, numbered_from}
use Rattle.circ_theory.specs.Goal.{Goal}
use Rattle.circ_proof.specs.Rules.{derived_goal, IsDerivable}
use Rattle.circ_rules.specs.Derivatives.{Cause, No_numbers, Past, sides_limit, cause_on, first_cause}

-- nothing stands in the way of one derivative, exactly if it is derivable

derivable_one : (g : Goal) (d : Derivative) → cause_on g d ≡ None → IsDerivable g d
derivable_one g d e =
    go (nat_lt (2 ^ 32) (fresh_in g + length (parameters_in d.body))) (first_limit (derived d g.left (numbered_from (fresh_in g))))
    (first_limit (derived d g.right (numbered_from (fresh_in g)))) refl refl refl e
  where
    go : (b : Bool) (l r : Option Limit) → nat_lt (2 ^ 32) (fresh_in g + length (parameters_in d.body)) ≡ b
        → first_limit (derived d g.left (numbered_from (fresh_in g))) ≡ l → first_limit (derived d g.right (numbered_from (fresh_in g))) ≡ r
        → (if b then Some No_numbers else option_map Past (or_else l r)) ≡ None → IsDerivable g d
    go false None None b l r e = record { numbers = ltb-false (2 ^ 32) (fresh_in g + length (parameters_in d.body)) b; left = l; right = r }
    go false None (Some y) b l r e = absurd (cc)
    go false (Some x) r2 b l r e = absurd (cc)
    go true l2 r2 b l r e = absurd (cc)

no_cause : (g : Goal) (d : Derivative) → IsDerivable g d → cause_on g d ≡ None
no_cause g d h =
    ap (λ b. if b then Some No_numbers else option_map Past (sides_limit (derived_goal d g (fresh_in g))))
    (le-ltb (2 ^ 32) (fresh_in g + length (parameters_in d.body)) h.numbers)
    ∙ ap (λ o. option_map Past (or_else o (first_limit (derived d g.right (numbered_from (fresh_in g)))))) h.left
    ∙ ap (λ o. option_map Past o) h.right

pub all_derivable : (g : Goal) (ds : List Derivative) → first_cause g ds ≡ None → AllByRecursion (IsDerivable g) ds
all_derivable g [] e = tt
all_derivable g (d ∷ ds) e = go (cause_on g d) refl (all_derivable g ds) e
  where
    go : (o : Option Cause) → cause_on g d ≡ o → (first_cause g ds ≡ None → AllByRecursion (IsDerivable g) ds) → option_or o (first_cause g ds) ≡ None
        → AllByRecursion (IsDerivable g) (d ∷ ds)
    go None c f e = (derivable_one g d c, f e)
    go (Some x) c f e = absurd (cc)

pub no_first_cause : (g : Goal) (ds : List Derivative) → AllByRecursion (IsDerivable g) ds → first_cause g ds ≡ None
no_first_cause g [] h = refl
no_first_cause g (d ∷ ds) h = ap (λ o. option_or o (first_cause g ds)) (no_cause g d h.0) ∙ no_first_cause g ds h.1
