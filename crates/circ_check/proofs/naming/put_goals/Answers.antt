use Rattle.std.proofs.Common.{length, map, ◌∙◌}
use Rattle.circ_nodes.specs.Named.{tree_at}
use Rattle.circ_nodes.proofs.Numbers.{grows_self, grows_more}
use Rattle.circ_proof.specs.PlainProof.{plain_names}
use Rattle.circ_steps.proofs.Numbering.{all_later}
use Rattle.circ_check.specs.Naming.{IsNameWithin}
use Rattle.circ_steps.proofs.Staying.{shared_goal_later, goal_there_later}
use Rattle.circ_check.proofs.Named.{all_read, goals_none, goals_next, goals_all}
use Rattle.circ_check.proofs.naming.put_goals.Goals as goal

pub loop-name-init : goal.loop-name-init
loop-name-init c =
    let nodes = c.args.nodes.now in
    record {
      grows = grows_self nodes;
      goals = goals_none (map (tree_at nodes) c.args.table.now) c.args.names.now nodes c.args.goals.now.items c.args.own.now.items c.requires.no_goal
          c.requires.no_pattern;
    }

pub share_goal-requires : goal.share_goal-requires
share_goal-requires c =
    let table = c.args.table.now in
    all_read plain_names (IsNameWithin (length table)) c.args.names.now c.loop-name.name-index c.name-item.result c.requires.names c.loop-name-test.true
    c.name-item.is

pub own_goal-requires : goal.own_goal-requires
own_goal-requires c =
    let at = c.loop-name in
    c.in_ok-goal.ensures.there at.nodes (all_later c.args.nodes.now at.nodes at.invariant.grows c.args.table.now c.requires.table)

pub loop-name-preserved : goal.loop-name-preserved
loop-name-preserved c =
    let at = c.loop-name in
    let old = c.args.nodes.now in
    let table = c.args.table.now in
    let new = c.own_goal.new.nodes in
    let g = c.own_goal.ensures.grows in
    let x = c.in_ok-goal.goal in
    let there = c.in_ok-goal.ensures.there at.nodes (all_later old at.nodes at.invariant.grows table c.requires.table) in
    let first = c.in_ok-goal.ensures.there old c.requires.table in
    let seen = shared_goal_later old at.nodes at.invariant.grows x first ∙ c.in_ok-goal.ensures.same old in
    record {
      grows = grows_more old at.nodes new at.invariant.grows g;
      goals =
          goals_next (map (tree_at old) table) c.args.names.now at.nodes new g at.name-index c.name-item.result at.goals.items c.push_back.new.self.items at.own.items
          c.push.new.self.items x c.in_ok-made.made c.loop-name-test.true c.name-item.is (goal_there_later at.nodes new g x there)
          (shared_goal_later at.nodes new g x there ∙ seen) c.in_ok-made.ensures.pattern (c.in_ok-made.ensures.same ∙ seen)
          c.in_ok-push_back.ensures.items c.in_ok-push.ensures.items at.invariant.goals;
    }

pub returns-clause-goals_there : goal.returns-clause-goals_there
returns-clause-goals_there c = c.loop-name.invariant.goals.there

pub returns-clause-goals : goal.returns-clause-goals
returns-clause-goals c =
    let at = c.loop-name in
    (goals_all (map (tree_at c.args.nodes.now) c.args.table.now) c.args.names.now at.nodes at.name-index at.goals.items at.own.items c.loop-name-test.false
    at.invariant.goals).0

pub returns-clause-own : goal.returns-clause-own
returns-clause-own c =
    let at = c.loop-name in
    (goals_all (map (tree_at c.args.nodes.now) c.args.table.now) c.args.names.now at.nodes at.name-index at.goals.items at.own.items c.loop-name-test.false
    at.invariant.goals).1
