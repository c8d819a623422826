-- Attributes, as far as they are written.
use Rattle.std.specs.Prelude.{◌≡◌, ℕ, List, [], ◌∷◌, ◌++◌, Bool, true, codes, if◌then◌else◌}

-- What the words add that are left, where some have been written or none: the first stands after an opening bracket, each other after a
-- space, and a closing bracket after the last.
abbrev pub bracketed : (begun : Bool) → List (List ℕ) → List ℕ
bracketed begun [] = if begun then codes "]" else []
bracketed begun (w ∷ ws) = (if begun then codes " " else codes " [") ++ (w ++ bracketed true ws)

-- These words were written: whatever words are left, they add to the new text what they and these added to the old.
abbrev pub WritesWords : (old new : List ℕ) → (begun now : Bool) → List (List ℕ) → Type 0
WritesWords old new begun now ws = (rest : List (List ℕ)) → new ++ bracketed now rest ≡ old ++ bracketed begun (ws ++ rest)
