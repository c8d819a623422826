use Rattle.std.proofs.Common.{ap}
use Rattle.circ_book.specs.Histories.{history_at}
use Rattle.circ_tasks.specs.Tasks.{goal_stepped, node_history}
use Rattle.circ_expand.proofs.Earlier.{node_there, node_nowhere}
use Rattle.circ_expansion.proofs.Numbers.{got}
use Rattle.circ_tasks.proofs.Stepping.{steps_same}
use Rattle.circ_expand.proofs.goal_steps.number_step.Goals as goal

pub node_step-requires : goal.node_step-requires
node_step-requires c = (rw c.as_slice-nodes.ensures.value at c.in-Some.ensures.lookup).3.0

pub returns-in-Some : goal.returns-in-Some
returns-in-Some c =
    let fr = c.args.frame.now in
    let w = c.args.work.now in
    let d = c.args.call.value in
    let k = c.args.number in
    let n = c.in-Some.node.now in
    let ns = fr.book.now.nodes.items in
    let there = rw c.as_slice-nodes.ensures.value at c.in-Some.ensures.lookup in
    steps_same fr (goal_stepped fr d (history_at fr.table.now ns k) w) (goal_stepped fr d (node_history fr k n) w) c.node_step.new.work c.node_step.result
    (ap (λ h. goal_stepped fr d h w) (node_there fr.table.now ns k n there.3.0 (got ns k n there.3.0 there.1))) c.node_step.ensures

pub returns-in-None : goal.returns-in-None
returns-in-None c =
    let fr = c.args.frame.now in
    let none = rw c.as_slice-nodes.ensures.value at c.in-None.ensures.lookup.3 in
    ap (λ h. goal_stepped fr c.args.call.value h c.args.work.now) (node_nowhere fr.table.now fr.book.now.nodes.items c.args.number none)
