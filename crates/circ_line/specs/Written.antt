-- Words in the two parts in which they are written.
use Rattle.std.specs.Prelude.{ℕ, List, [], ◌∷◌, flat_map}

abbrev pub first_word : List (List ℕ) → List ℕ
first_word [] = []
first_word (word ∷ words) = word

-- words with a space before each
abbrev pub spaced : List (List ℕ) → List ℕ
spaced words = flat_map (λ w. 32 ∷ w) words

-- the words after the first
abbrev pub further : List (List ℕ) → List ℕ
further [] = []
further (word ∷ words) = spaced words
