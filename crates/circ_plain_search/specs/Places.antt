-- All arguments of operators, as places.
use Rattle.std.specs.Prelude.{ℕ, ◌+◌, List, [], ◌∷◌, ◌++◌}
use Rattle.circ_theory.specs.Signature.{Operator}
use Rattle.circ_special.specs.declared.place.Place.{Place}
use Rattle.circ_special.specs.Special.{place}

-- the arguments of operator f, the first of which has the number i
abbrev pub places_from : (f i : ℕ) → (sorts : List ℕ) → List Place
places_from f i [] = []
places_from f i (s ∷ ss) = place f i ∷ places_from f (i + 1) ss

-- those of operators, the first of which has the number f
abbrev pub all_places : (f : ℕ) → List Operator → List Place
all_places f [] = []
all_places f (o ∷ os) = places_from f 0 o.args ++ all_places (f + 1) os
