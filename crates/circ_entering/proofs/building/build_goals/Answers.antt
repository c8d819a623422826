use Rattle.std.proofs.Common.{◌≡◌, ◌++◌, ◌+◌, List, drop, subst}
use Rattle.circ_term.proofs.Within.{drop_read}
use Rattle.circ_steps.specs.States.{shared_goal, shared_goals}
use Rattle.circ_steps.specs.declared.states.SharedGoal.{SharedGoal}
use Rattle.circ_entering.proofs.Entered.{all_at}
use Rattle.circ_entering.proofs.Working.{built_more}
use Rattle.circ_entering.proofs.building.build_goals.Goals as goal

pub build_goal-requires : goal.build_goal-requires
build_goal-requires c =
    let x = c.goal-item.result in
    let there = all_at _ c.args.goals.now c.loop-goal.goal-index x c.requires.there c.loop-goal-test.true c.goal-item.is in
    record { conditions = rw c.as_slice.ensures.value there.conditions; sides = there.sides; built = c.loop-goal.invariant.built }

pub loop-goal-preserved : goal.loop-goal-preserved
loop-goal-preserved c =
    let nodes = c.args.nodes.now in
    let at = c.loop-goal in
    let x = c.goal-item.result in
    let e = drop_read c.args.goals.now at.goal-index x c.loop-goal-test.true c.goal-item.is in
    let whole = c.args.made.now.items ++ shared_goals nodes c.args.goals.now in
    let P : List SharedGoal → Type 0 = λ xs. at.made.items ++ shared_goals nodes xs ≡ whole in
    record {
      built = c.build_goal.ensures.built;
      made = built_more (shared_goal nodes) whole at.made.items c.push.new.self.items (shared_goals nodes (drop (at.goal-index + 1) c.args.goals.now)) x
          c.in_ok-build_goal.field-0 (rw c.as_slice.ensures.value at c.in_ok-build_goal.ensures.same) c.in_ok-push.ensures.items (subst P e at.invariant.made);
    }
