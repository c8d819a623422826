use Rattle.std.proofs.Common.{refl}
use Rattle.circ_regex.proofs.laws.values_by_operators.Goals as goal

pub returns-clause-or : goal.returns-clause-or
returns-clause-or c = λ x y. refl

pub returns-clause-and : goal.returns-clause-and
returns-clause-and c = λ x y. refl

pub returns-clause-acc : goal.returns-clause-acc
returns-clause-acc c = λ t. refl
