-- A condition more of the last goal.
use Rattle.std.specs.Prelude.{◌≡◌, Bool, true, false, List, [], ◌∷◌, ◌++◌, Option, Some, None}
use Rattle.std.specs.Option.{option_map}
use Rattle.circ_theory.specs.Pair.{Pair}
use Rattle.circ_theory.specs.Goal.{Goal}

abbrev pub with_pair : Goal → Pair → Goal
with_pair g q = record g { conds = g.conds ++ q ∷ [] }

-- the goals, of which the last has the condition too
abbrev pub add_pair : List Goal → Pair → Option (List Goal)
add_pair [] q = None
add_pair (g ∷ []) q = Some (with_pair g q ∷ [])
add_pair (g ∷ h ∷ gs) q = option_map (λ r. g ∷ r) (add_pair (h ∷ gs) q)

-- this is what is made, or there is none
abbrev pub Gives : {A : Type 0} → Bool → Option A → (new : A) → Type 0
Gives true o new = o ≡ Some new
Gives false o new = o ≡ None
