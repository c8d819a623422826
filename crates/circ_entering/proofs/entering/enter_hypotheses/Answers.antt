use Rattle.std.proofs.Common.{◌++◌, map, refl}
use Rattle.circ_nodes.proofs.Numbers.{grows_self, grows_more}
use Rattle.circ_shared.specs.Patterns.{goal_at, IsPattern}
use Rattle.circ_shared.proofs.Sharing.{patterns_later}
use Rattle.circ_entering.proofs.Entered.{hypotheses_stay, entered_next, entered_all}
use Rattle.circ_entering.proofs.entering.enter_hypotheses.Goals as goal

pub loop-goal-init : goal.loop-goal-init
loop-goal-init c = record { grows = grows_self c.args.nodes.now; entered = record { there = c.requires; seen = refl } }

pub loop-goal-preserved : goal.loop-goal-preserved
loop-goal-preserved c =
    let at = c.loop-goal in
    let new = c.enter_hypothesis.new.nodes in
    let gs = c.args.goals.now in
    let whole = map (goal_at c.args.nodes.now) c.args.entered.now.items ++ gs in
    let made = c.in_ok-enter_hypothesis in
    record {
      grows = grows_more c.args.nodes.now at.nodes new at.invariant.grows c.enter_hypothesis.ensures.grows;
      entered = entered_next IsPattern goal_at hypotheses_stay whole gs at.nodes new c.enter_hypothesis.ensures.grows at.goal-index c.goal-item.result made.field-0
          at.entered.items c.push.new.self.items c.loop-goal-test.true c.goal-item.is made.ensures.pattern made.ensures.same c.in_ok-push.ensures.items
          at.invariant.entered;
    }

pub returns-clause-grows : goal.returns-clause-grows
returns-clause-grows c = c.loop-goal.invariant.grows

pub returns-clause-there : goal.returns-clause-there
returns-clause-there c = c.loop-goal.invariant.entered.there

pub returns-clause-exact : goal.returns-clause-exact
returns-clause-exact c =
    let at = c.loop-goal in
    let gs = c.args.goals.now in
    let whole = map (goal_at c.args.nodes.now) c.args.entered.now.items ++ gs in
    entered_all IsPattern goal_at whole gs at.nodes at.goal-index at.entered.items c.loop-goal-test.false at.invariant.entered

pub returns-in_err-enter_hypothesis-clause-there : goal.returns-in_err-enter_hypothesis-clause-there
returns-in_err-enter_hypothesis-clause-there c =
    patterns_later c.loop-goal.nodes c.enter_hypothesis.new.nodes c.enter_hypothesis.ensures.grows c.loop-goal.entered.items c.loop-goal.invariant.entered.there

pub returns-in_err-push-clause-there : goal.returns-in_err-push-clause-there
returns-in_err-push-clause-there c =
    rw c.in_err-push.ensures.items (patterns_later c.loop-goal.nodes c.enter_hypothesis.new.nodes c.enter_hypothesis.ensures.grows c.loop-goal.entered.items c.loop-goal.invariant.entered.there)
