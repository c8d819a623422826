use Rattle.std.proofs.Common.{ap, []}
use Rattle.circ_regex.proofs.Truth.{equation_is_true}
use Rattle.circ_regex.proofs.laws.equations_are_true.Goals as goal

pub returns-clause-words : goal.returns-clause-words
returns-clause-words c = λ e σ listed sorted w. ap (λ L. L w) (equation_is_true e listed σ sorted)

pub returns-clause-values : goal.returns-clause-values
returns-clause-values c = λ e σ listed sorted. ap (λ L. L []) (equation_is_true e listed σ sorted)
