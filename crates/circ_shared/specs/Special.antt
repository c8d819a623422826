-- A step of a special path, by number.
use Rattle.std.specs.Prelude.{◌<◌, ◌↔◌, ℕ, List, ◌∷◌, length, Option, Some, None}
use Rattle.circ_term.specs.Tree.{Tree}
use Rattle.circ_special.specs.declared.place.Place.{Place}
use Rattle.circ_special.specs.Special.{IsSpecial}
use Rattle.circ_nodes.specs.Named.{tree_at}

-- the argument at a place of the set, or that no special path goes there
abbrev pub StepsTo : (nodes : List Tree) → List Place → Tree → ℕ → Option ℕ → Type 0
StepsTo nodes G t i None = (p : List ℕ) → IsSpecial G t (i ∷ p) → ⊥
StepsTo nodes G t i (Some n) = (n < length nodes) × ((p : List ℕ) → IsSpecial G t (i ∷ p) ↔ IsSpecial G (tree_at nodes n) p)
