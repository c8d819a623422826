use Rattle.std.proofs.Common.{[], refl}
use Rattle.circ_attempt.specs.Search.{going}
use Rattle.circ_attempt.proofs.Without.{turn_same, finishes_rewriting, to_conditional, from_conditional}
use Rattle.circ_attempt.proofs.laws.without_the_flag.Goals as goal

pub returns-clause-turns : goal.returns-clause-turns
returns-clause-turns c = λ th G l off x. turn_same th G l off x

pub returns-clause-found : goal.returns-clause-found
returns-clause-found c = λ th blocks l f off. (to_conditional th blocks l f off, from_conditional th blocks l f off)

pub returns-clause-ends : goal.returns-clause-ends
returns-clause-ends c = λ th G l off st e f. finishes_rewriting th G l off st (going st []) e refl f
