use Rattle.std.proofs.Common.{sym, ◌∙◌}
use Rattle.circ_script.proofs.Drafts.{fault_told}
use Rattle.circ_script.proofs.goals.push_goal.Goals as goal

pub returns-in-Some-goal_fault : goal.returns-in-Some-goal_fault
returns-in-Some-goal_fault c =
    rw c.because-in-Some-goal_fault.ensures
    (fault_told c.args.theory.now c.args.goals.now.items c.args.terms.now c.in-Some.goal c.in-Some-goal_fault.cause (sym c.in_ok-goal.ensures ∙ c.in-Some.is)
    c.in-Some-goal_fault.ensures)
