use Rattle.circ_entering.proofs.Working.{front_there, front_seen}
use Rattle.circ_entering.proofs.work.Work.first.Goals as goal

pub build_goal-requires-clause-conditions : goal.build_goal-requires-clause-conditions
build_goal-requires-clause-conditions c =
    let w = c.args.self.now in
    rw c.as_slice-conds.ensures.value (front_there w.nodes w.state.goals.items c.in-Some.goal.now c.requires.1.state.goals c.in-Some.ensures.item.3.0
    c.in-Some.ensures.lookup).conditions

pub build_goal-requires-clause-sides : goal.build_goal-requires-clause-sides
build_goal-requires-clause-sides c =
    let w = c.args.self.now in
    (front_there w.nodes w.state.goals.items c.in-Some.goal.now c.requires.1.state.goals c.in-Some.ensures.item.3.0 c.in-Some.ensures.lookup).sides

pub build_goal-requires-clause-built : goal.build_goal-requires-clause-built
build_goal-requires-clause-built c = c.requires.1.built

pub returns-clause-first : goal.returns-clause-first
returns-clause-first c =
    let w = c.args.self.now in
    front_seen w.nodes w.state.goals.items c.in-Some.goal.now c.in_ok-first.first c.in-Some.ensures.item.3.0 c.in-Some.ensures.lookup
    (rw c.as_slice-conds.ensures.value at c.in_ok-first.ensures.same)
