use Rattle.std.proofs.Common.{◌∙◌}
use Rattle.circ_nodes.proofs.Numbers.{grows_more}
use Rattle.circ_steps.specs.declared.states.SharedGoal.{SharedGoal}
use Rattle.circ_entering.proofs.Entered.{goal_entered}
use Rattle.circ_entering.proofs.entering.enter_goal.Goals as goal

pub returns-in_err-left-clause-grows : goal.returns-in_err-left-clause-grows
returns-in_err-left-clause-grows c =
    grows_more c.args.nodes.now c.share_pairs.new.nodes c.intern.new.self c.in_ok-conds.ensures.grows c.intern.ensures.grows

pub returns-in_err-right-clause-grows : goal.returns-in_err-right-clause-grows
returns-in_err-right-clause-grows c =
    let first = grows_more c.args.nodes.now c.share_pairs.new.nodes c.intern.new.self c.in_ok-conds.ensures.grows c.in_ok-left.ensures.grows in
    grows_more c.args.nodes.now c.intern.new.self c.intern-2.new.self first c.intern-2.ensures.grows

pub returns-clause-grows : goal.returns-clause-grows
returns-clause-grows c =
    let first = grows_more c.args.nodes.now c.share_pairs.new.nodes c.intern.new.self c.in_ok-conds.ensures.grows c.in_ok-left.ensures.grows in
    grows_more c.args.nodes.now c.intern.new.self c.intern-2.new.self first c.in_ok-right.ensures.grows

pub returns-clause-there : goal.returns-clause-there
returns-clause-there c =
    let g = c.args.goal.now in
    let x : SharedGoal = record { conds = c.in_ok-conds.conds; sides = record { left = c.in_ok-left.left; right = c.in_ok-right.right } } in
    (goal_entered c.share_pairs.new.nodes c.intern.new.self c.intern-2.new.self c.in_ok-left.ensures.grows c.in_ok-right.ensures.grows x g.conds g.left g.right
    c.in_ok-conds.ensures.there (c.in_ok-conds.ensures.same ∙ c.as_slice.ensures) c.in_ok-left.ensures.named c.in_ok-right.ensures.named).0

pub returns-clause-same : goal.returns-clause-same
returns-clause-same c =
    let g = c.args.goal.now in
    let x : SharedGoal = record { conds = c.in_ok-conds.conds; sides = record { left = c.in_ok-left.left; right = c.in_ok-right.right } } in
    (goal_entered c.share_pairs.new.nodes c.intern.new.self c.intern-2.new.self c.in_ok-left.ensures.grows c.in_ok-right.ensures.grows x g.conds g.left g.right
    c.in_ok-conds.ensures.there (c.in_ok-conds.ensures.same ∙ c.as_slice.ensures) c.in_ok-left.ensures.named c.in_ok-right.ensures.named).1
