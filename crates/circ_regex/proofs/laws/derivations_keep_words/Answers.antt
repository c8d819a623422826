use Rattle.std.proofs.Common.{ap, []}
use Rattle.circ_regex.proofs.Keeps.{derived_words}
use Rattle.circ_regex.proofs.laws.derivations_keep_words.Goals as goal

pub returns-clause-words : goal.returns-clause-words
returns-clause-words c = λ s t d w. ap (λ L. L w) (derived_words s t d)

pub returns-clause-values : goal.returns-clause-values
returns-clause-values c = λ s t d. ap (λ L. L []) (derived_words s t d)
