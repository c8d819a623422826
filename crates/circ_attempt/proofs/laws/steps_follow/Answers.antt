use Rattle.circ_attempt.proofs.Following.{turn_follows, goal_follows, done_follows}
use Rattle.circ_attempt.proofs.laws.steps_follow.Goals as goal

pub returns-clause-turns : goal.returns-clause-turns
returns-clause-turns c = λ th G l x y e. turn_follows th G l x y e

pub returns-clause-goal : goal.returns-clause-goal
returns-clause-goal c = λ th G l x y e g rest is. goal_follows th G l x y e g rest is

pub returns-clause-done : goal.returns-clause-done
returns-clause-done c = λ th G l x y e is. done_follows th G l x y e is
