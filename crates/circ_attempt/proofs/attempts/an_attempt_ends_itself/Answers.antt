use Rattle.circ_attempt.proofs.Falling.{attempt_leaves, attempt_not_past, attempt_out}
use Rattle.circ_attempt.proofs.attempts.an_attempt_ends_itself.Goals as goal

pub returns-clause-left : goal.returns-clause-left
returns-clause-left c = λ th G E H bs A s t k. attempt_leaves th G E H bs A s t k

pub returns-clause-limit : goal.returns-clause-limit
returns-clause-limit c = λ th G E H bs A s t k x l e. attempt_not_past th G E H bs A s t k x l e

pub returns-clause-spent : goal.returns-clause-spent
returns-clause-spent c = λ th G E H bs A s t k e. attempt_out th G E H bs A s t k e
