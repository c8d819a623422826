-- What stands at a place of a rule.
use Rattle.std.specs.Prelude.{◌≡◌, ◌<◌, ◌+◌, ℕ, List, [], ◌∷◌, length, drop}
use Rattle.circ_spelling.specs.declared.grammar.Symbol.{Symbol}
use Rattle.circ_spelling.specs.declared.grammar.Symbol.TheVariants.{Word, Hole}
use Rattle.circ_spelling.specs.declared.steps.Step.{Step}
use Rattle.circ_spelling.specs.declared.steps.Step.TheVariants.{AtEnd, AtWord, AtLast, AtHole}

-- the symbols from the place k on: none, a word before others, a last hole, a hole before others
abbrev pub IsStep : Step → List Symbol → ℕ → Type 0
IsStep AtEnd ps k = drop k ps ≡ []
IsStep (AtWord w) ps k = drop k ps ≡ Word w ∷ drop (k + 1) ps
IsStep (AtLast h) ps k = drop k ps ≡ Hole h.sort h.below ∷ []
IsStep (AtHole h) ps k = (k + 1 < length ps) × (drop k ps ≡ Hole h.sort h.below ∷ drop (k + 1) ps)

-- no hole is there
abbrev pub AreWords : List Symbol → Type 0
AreWords [] = Unit {0}
AreWords (Word w ∷ ps) = AreWords ps
AreWords (Hole s b ∷ ps) = ⊥
