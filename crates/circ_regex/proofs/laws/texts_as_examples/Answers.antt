use Rattle.std.proofs.Common.{codes, [], arith, refl}
use Rattle.circ_regex.specs.Matches.{a_letter, b_letter, no_word, empty_word, one_letter, either_of, in_turn, any_number}
use Rattle.circ_regex.proofs.Sound.{sound}
use Rattle.circ_regex.proofs.Finish.{not_read}
use Rattle.circ_regex.proofs.laws.texts_as_examples.Goals as goal

pub returns-clause-sum : goal.returns-clause-sum
returns-clause-sum c = (omega arith, sound (codes "a+b+1") (either_of (one_letter a_letter) (either_of (one_letter b_letter) empty_word)) refl)

pub returns-clause-product : goal.returns-clause-product
returns-clause-product c = (omega arith, sound (codes "ab0") (in_turn (one_letter a_letter) (in_turn (one_letter b_letter) no_word)) refl)

pub returns-clause-star : goal.returns-clause-star
returns-clause-star c = (omega arith, sound (codes "ab*") (in_turn (one_letter a_letter) (any_number (one_letter b_letter))) refl)

pub returns-clause-group : goal.returns-clause-group
returns-clause-group c = (omega arith, sound (codes "(ab)*") (any_number (in_turn (one_letter a_letter) (one_letter b_letter))) refl)

pub returns-clause-blank : goal.returns-clause-blank
returns-clause-blank c = not_read (codes "a b") refl

pub returns-clause-empty : goal.returns-clause-empty
returns-clause-empty c = not_read [] refl
