-- Laws of languages: units, and the star.
use Rattle.std.specs.Prelude.{◌≡◌, List, [], ◌∷◌, false, ◌&&◌, ◌||◌, refl}
use Rattle.std.proofs.Common.{ap, sym, ◌∙◌}
use Rattle.circ_regex.specs.Matches.{Letter}
use Rattle.circ_regex.specs.Languages.{Language, empty_language, empty_word_only, quotient, concatenated, iterated_from, iterated}
use Rattle.circ_regex.proofs.Bools.{or_false, and_false, and_true}

-- languages that have the same words are one
pub same_words : (L M : Language) → ((w : List Letter) → L w ≡ M w) → L ≡ M
same_words L M e = λ i. λ w. e w i

pub nothing_first : (M : Language) (w : List Letter) → concatenated empty_language M w ≡ false
nothing_first M [] = refl
nothing_first M (x ∷ w) = nothing_first M w

pub nothing_last : (L : Language) (w : List Letter) → concatenated L empty_language w ≡ false
nothing_last L [] = and_false (L [])
nothing_last L (x ∷ w) = ap (λ c. c || concatenated (quotient x L) empty_language w) (and_false (L [])) ∙ nothing_last (quotient x L) w

pub empty_first : (M : Language) (w : List Letter) → concatenated empty_word_only M w ≡ M w
empty_first M [] = refl
empty_first M (x ∷ w) = ap (λ c. M (x ∷ w) || c) (nothing_first M w) ∙ or_false (M (x ∷ w))

pub empty_last : (L : Language) (w : List Letter) → concatenated L empty_word_only w ≡ L w
empty_last L [] = and_true (L [])
empty_last L (x ∷ w) = ap (λ c. c || concatenated (quotient x L) empty_word_only w) (and_false (L [])) ∙ empty_last (quotient x L) w

-- the parts behind the first are a word of the star
pub iterated-concatenated : (L K : Language) (w : List Letter) → iterated_from L K w ≡ concatenated K (iterated L) w
iterated-concatenated L K [] = sym (and_true (K []))
iterated-concatenated L K (x ∷ w) = ap (λ c. (K [] && iterated_from L (quotient x L) w) || c) (iterated-concatenated L (quotient x K) w)
