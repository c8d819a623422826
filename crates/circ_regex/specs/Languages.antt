-- Languages as tests on words, and what the operators of LANG make of them.
use Rattle.std.specs.Prelude.{List, [], ◌∷◌, Bool, true, false, ◌&&◌, ◌||◌}
use Rattle.circ_regex.specs.Matches.{Letter, a_letter, b_letter}

abbrev pub Language : Type 0
Language = List Letter → Bool

abbrev pub empty_language : Language
empty_language w = false

abbrev pub empty_word_only : Language
empty_word_only [] = true
empty_word_only (x ∷ w) = false

abbrev pub is_same_letter : Letter → Letter → Bool
is_same_letter a_letter a_letter = true
is_same_letter a_letter b_letter = false
is_same_letter b_letter a_letter = false
is_same_letter b_letter b_letter = true

abbrev pub letter_only : Letter → Language
letter_only x [] = false
letter_only x (y ∷ w) = is_same_letter x y && empty_word_only w

-- the words that stand in L behind this letter
abbrev pub quotient : Letter → Language → Language
quotient x L = λ w. L (x ∷ w)

-- some cut of the word has its first part in L and its rest in M
abbrev pub concatenated : Language → Language → Language
concatenated L M [] = L [] && M []
concatenated L M (x ∷ w) = (L [] && M (x ∷ w)) || concatenated (quotient x L) M w

-- the word is cut into a first part in K and further parts in L that are not empty
abbrev pub iterated_from : Language → Language → Language
iterated_from L K [] = K []
iterated_from L K (x ∷ w) = (K [] && iterated_from L (quotient x L) w) || iterated_from L (quotient x K) w

-- the word is cut into parts in L that are not empty
abbrev pub iterated : Language → Language
iterated L [] = true
iterated L (x ∷ w) = iterated_from L (quotient x L) w
