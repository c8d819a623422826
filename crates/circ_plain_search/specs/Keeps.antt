-- A list from which those are dropped that do not have a property.
use Rattle.std.specs.Prelude.{List, [], ◌∷◌}

-- the second list has those of the first that have P, in order
pub data Keeps {X : Type 0} (P : X → Type 0) : List X → List X → Type 0 where
  ends : Keeps P [] []
  keeps : {xs ys : List X} (x : X) → P x → Keeps P xs ys → Keeps P (x ∷ xs) (x ∷ ys)
  drops : {xs ys : List X} (x : X) → (P x → ⊥) → Keeps P xs ys → Keeps P (x ∷ xs) ys
