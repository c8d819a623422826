use Rattle.std.proofs.Common.{refl}
use Rattle.circ_regex.proofs.Meaning.{product_words, star_words}
use Rattle.circ_regex.proofs.laws.words_by_operators.Goals as goal

pub returns-clause-sum : goal.returns-clause-sum
returns-clause-sum c = λ t u w. refl

pub returns-clause-product : goal.returns-clause-product
returns-clause-product c = product_words

pub returns-clause-star : goal.returns-clause-star
returns-clause-star c = star_words

pub returns-clause-behind_a : goal.returns-clause-behind_a
returns-clause-behind_a c = λ t w. refl

pub returns-clause-behind_b : goal.returns-clause-behind_b
returns-clause-behind_b c = λ t w. refl

pub returns-clause-under : goal.returns-clause-under
returns-clause-under c = λ x t w. refl
