-- How a special set lies in memory, and what its code answers.
use Rattle.std.specs.Prelude.{◌≡◌, ℕ, List, [], ◌∷◌, Bool, true, Option, Some, None, ◌↔◌, refl}
use Rattle.std.specs.Coded.{Coded, code_by, coded×, coded_ℕ}
use Rattle.circ_term.specs.Tree.{Tree}
use Rattle.circ_theory.specs.Theory.{Theory}
use Rattle.circ_special.specs.declared.place.Place.{Place}
use Rattle.circ_special.specs.Special.{IsSet, IsSpecial, comes_before}

abbrev pub place_code : Coded Place
place_code = code_by (ℕ × ℕ) (coded× coded_ℕ coded_ℕ) (λ g. (g.op, g.arg)) (λ p. record { op = p.0; arg = p.1 }) (λ _. refl)

-- the set of these places, or that they are no set
abbrev pub GivesSet : Theory → List Place → Option (List Place) → Type 0
GivesSet th G None = IsSet th G → ⊥
GivesSet th G (Some F) = (F ≡ G) × IsSet th G

-- whether the place comes before the first of the others, if there are others
abbrev pub comes_before_first : Place → List Place → Bool
comes_before_first g [] = true
comes_before_first g (h ∷ G) = comes_before g h

-- the argument at a place of the set, or that no special path goes there
abbrev pub GoesBelow : List Place → Tree → ℕ → Option Tree → Type 0
GoesBelow G t i None = (p : List ℕ) → IsSpecial G t (i ∷ p) → ⊥
GoesBelow G t i (Some a) = (p : List ℕ) → IsSpecial G t (i ∷ p) ↔ IsSpecial G a p
