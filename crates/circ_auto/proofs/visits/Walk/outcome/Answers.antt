use Rattle.std.proofs.Common.{Some, None, subst}
use Rattle.circ_auto.specs.Graph.{Graph, FindsGoal}
use Rattle.circ_auto.proofs.visits.Walk.outcome.Goals as goal

pub returns-in_ok-word_to-in-Some : goal.returns-in_ok-word_to-in-Some
returns-in_ok-word_to-in-Some c =
    let P : Graph → Type 0 = λ g. FindsGoal g (Some c.in_ok-word_to-in-Some.field-0.items) in
    subst P c.in_ok-goal.ensures.kept c.in_ok-word_to-in-Some.ensures

pub returns-in-None : goal.returns-in-None
returns-in-None c =
    let P : Graph → Type 0 = λ g. FindsGoal g None in
    subst P c.in_ok-goal.ensures.kept (rw c.in-None.is at c.in_ok-goal.ensures.searched)
