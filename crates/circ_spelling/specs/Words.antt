-- Rules that have a word.
use Rattle.std.specs.Prelude.{◌≡◌, ◌<◌, ◌+◌, ℕ, List, [], ◌∷◌, Some}
use Rattle.std.specs.List.{slice_get}
use Rattle.circ_spelling.specs.declared.grammar.Symbol.{Symbol}
use Rattle.circ_spelling.specs.declared.grammar.Symbol.TheVariants.{Word, Hole}
use Rattle.circ_spelling.specs.declared.grammar.Rule.{Rule}
use Rattle.circ_spelling.specs.declared.grammar.Grammar.{Grammar}

-- how many words there are
abbrev pub words : List Symbol → ℕ
words [] = 0
words (Word w ∷ ps) = words ps + 1
words (Hole s b ∷ ps) = words ps

-- each rule has a word
abbrev pub HaveWords : Grammar → Type 0
HaveWords g = (n : ℕ) (r : Rule) → slice_get g.rules.items n ≡ Some r → 0 < words r.symbols.items
