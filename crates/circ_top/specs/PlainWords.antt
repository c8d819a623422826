-- Words that are taken as they stand.
use Rattle.std.specs.Prelude.{◌≡◌, ℕ, List, ◌∷◌, false}
use Rattle.circ_turn.specs.declared.search.Limits.{Limits}

-- The word does not begin with `-` (45).
abbrev pub IsPlainWord : List ℕ → Type 0
IsPlainWord word = (rest : List ℕ) → word ≡ 45 ∷ rest → ⊥

-- the limits where the words have no option
abbrev pub usual_limits : Limits
usual_limits = record { steps = 100000; derives = 256; split = false; rewrite = false }
