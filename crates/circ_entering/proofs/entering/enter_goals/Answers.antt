use Rattle.std.proofs.Common.{◌++◌, refl}
use Rattle.circ_nodes.proofs.Numbers.{grows_self, grows_more}
use Rattle.circ_steps.specs.States.{shared_goal, shared_goals, IsGoalThere}
use Rattle.circ_steps.proofs.Staying.{goals_there_later}
use Rattle.circ_entering.proofs.Entered.{goals_stay, entered_next, entered_all}
use Rattle.circ_entering.proofs.entering.enter_goals.Goals as goal

pub loop-goal-init : goal.loop-goal-init
loop-goal-init c = record { grows = grows_self c.args.nodes.now; entered = record { there = c.requires; seen = refl } }

pub loop-goal-preserved : goal.loop-goal-preserved
loop-goal-preserved c =
    let at = c.loop-goal in
    let new = c.enter_goal.new.nodes in
    let gs = c.args.goals.now in
    let whole = shared_goals c.args.nodes.now c.args.entered.now.items ++ gs in
    let made = c.in_ok-enter_goal in
    record {
      grows = grows_more c.args.nodes.now at.nodes new at.invariant.grows c.enter_goal.ensures.grows;
      entered = entered_next IsGoalThere shared_goal goals_stay whole gs at.nodes new c.enter_goal.ensures.grows at.goal-index c.goal-item.result made.field-0
          at.entered.items c.push_back.new.self.items c.loop-goal-test.true c.goal-item.is made.ensures.there made.ensures.same c.in_ok-push_back.ensures.items
          at.invariant.entered;
    }

pub returns-clause-grows : goal.returns-clause-grows
returns-clause-grows c = c.loop-goal.invariant.grows

pub returns-clause-there : goal.returns-clause-there
returns-clause-there c = c.loop-goal.invariant.entered.there

pub returns-clause-exact : goal.returns-clause-exact
returns-clause-exact c =
    let at = c.loop-goal in
    let gs = c.args.goals.now in
    let whole = shared_goals c.args.nodes.now c.args.entered.now.items ++ gs in
    entered_all IsGoalThere shared_goal whole gs at.nodes at.goal-index at.entered.items c.loop-goal-test.false at.invariant.entered

pub returns-in_err-enter_goal-clause-there : goal.returns-in_err-enter_goal-clause-there
returns-in_err-enter_goal-clause-there c =
    goals_there_later c.loop-goal.nodes c.enter_goal.new.nodes c.enter_goal.ensures.grows c.loop-goal.entered.items c.loop-goal.invariant.entered.there

pub returns-in_err-push_back-clause-there : goal.returns-in_err-push_back-clause-there
returns-in_err-push_back-clause-there c =
    rw c.in_err-push_back.ensures.items (goals_there_later c.loop-goal.nodes c.enter_goal.new.nodes c.enter_goal.ensures.grows c.loop-goal.entered.items c.loop-goal.invariant.entered.there)
