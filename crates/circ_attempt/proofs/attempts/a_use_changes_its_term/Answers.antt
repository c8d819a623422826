use Rattle.circ_attempt.proofs.Strict.{takes_another}
use Rattle.circ_attempt.proofs.attempts.a_use_changes_its_term.Goals as goal

pub returns : goal.returns
returns c = λ r new old e same. takes_another r new old e same
