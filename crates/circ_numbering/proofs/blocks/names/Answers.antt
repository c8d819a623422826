use Rattle.circ_proof.specs.PlainProof.{plain_names}
use Rattle.circ_plain_search.specs.Numbering.{goal_terms, goal_name}
use Rattle.circ_numbering.proofs.Walks.{walk_fails, walk_on}
use Rattle.circ_numbering.proofs.blocks.names.Goals as goal

pub returns-in-Err : goal.returns-in-Err
returns-in-Err c =
    let l = c.loop-goal in
    let h = walk_fails goal_terms plain_names goal_name c.args.table.now c.args.goals.now l.goal-index l.table l.names.items l.invariant c.goal-item.result c.loop-goal-test.true c.goal-item.is c.in-Err.fault c.in-Err.ensures in
    h

pub loop-goal-preserved : goal.loop-goal-preserved
loop-goal-preserved c =
    let l = c.loop-goal in
    walk_on goal_terms plain_names goal_name c.args.table.now c.args.goals.now l.goal-index l.table l.names.items l.invariant c.goal-item.result c.loop-goal-test.true c.goal-item.is c.name.new.table c.push.new.self.items c.in-Ok.name
    c.in-Ok.ensures.0 c.in-Ok.ensures.1 c.in_ok-push-in-Ok.ensures.items
