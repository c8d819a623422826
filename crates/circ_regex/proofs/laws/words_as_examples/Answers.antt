use Rattle.std.proofs.Common.{◌≡◌, ◌∷◌, [], true, false, refl}
use Rattle.circ_regex.specs.Matches.{a_letter, b_letter, one_letter, in_turn, any_number}
use Rattle.circ_regex.proofs.Agrees.{has_matches, matches_has}
use Rattle.circ_regex.proofs.laws.words_as_examples.Goals as goal

pub returns-clause-star : goal.returns-clause-star
returns-clause-star c = has_matches (any_number (one_letter a_letter)) (a_letter ∷ a_letter ∷ []) refl

pub returns-clause-empty : goal.returns-clause-empty
returns-clause-empty c = has_matches (any_number (one_letter a_letter)) [] refl

pub returns-clause-product : goal.returns-clause-product
returns-clause-product c = has_matches (in_turn (any_number (one_letter a_letter)) (one_letter b_letter)) (a_letter ∷ b_letter ∷ []) refl

pub returns-clause-other : goal.returns-clause-other
returns-clause-other c = λ m.
    let has : false ≡ true = matches_has (any_number (one_letter a_letter)) (a_letter ∷ b_letter ∷ []) m in absurd (cc)
