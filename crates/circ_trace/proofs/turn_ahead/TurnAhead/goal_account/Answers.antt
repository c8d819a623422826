use Rattle.std.proofs.Common.{◌∙◌}
use Rattle.circ_plain_search.specs.Search.{sides_with, Sides}
use Rattle.circ_proof.specs.Plain.{plain_chain}
use Rattle.circ_attempt.specs.Search.{going}
use Rattle.circ_turn.specs.Standing.{standing, conduct_with}
use Rattle.circ_turn.proofs.Turning.{sides_here, reducing_is}
use Rattle.circ_trace.proofs.Accounts.{no_account, some_account}
use Rattle.circ_trace.proofs.turn_ahead.TurnAhead.goal_account.Goals as goal

pub returns-in-Err-clause-exact : goal.returns-in-Err-clause-exact
returns-in-Err-clause-exact c =
    let th = c.args.self.now.search.now.theory.now in
    let E = c.args.self.now.state.now.hyps.earlier in
    let g = c.args.goal.now in
    let rules = c.assume.ensures.rules th E c.requires.rules in
    let red = reducing_is th E c.assume.new.self.goals.conds g.conds c.assume.new.self.goals.reducer rules.goals (c.in_ok-assume.ensures.conds ∙ c.as_slice.ensures) in
    let h = rw c.in-Err.is at (sides_here th E g.conds c.assume.new.self.goals.reducer g.left g.right c.args.self.now.state.now.budget c.normal_sides.new.budget
    c.normal_sides.result red c.normal_sides.ensures.exact) in
    no_account th c.args.self.now.search.now.gamma.now (conduct_with c.args.self.now.search.now.limits) (going (standing c.args.self.now.state.now) c.args.self.now.passed.now) g.conds c.in-Err.stop _ h
    c.none_unless_memory-none.result c.none_unless_memory-none.ensures.none c.none_unless_memory-none.ensures.stopped

pub returns-in_ok-goal-in-Ok-clause-exact : goal.returns-in_ok-goal-in-Ok-clause-exact
returns-in_ok-goal-in-Ok-clause-exact c =
    let th = c.args.self.now.search.now.theory.now in
    let E = c.args.self.now.state.now.hyps.earlier in
    let g = c.args.goal.now in
    let rules = c.assume.ensures.rules th E c.requires.rules in
    let red = reducing_is th E c.assume.new.self.goals.conds g.conds c.assume.new.self.goals.reducer rules.goals (c.in_ok-assume.ensures.conds ∙ c.as_slice.ensures) in
    let h = rw c.in-Ok.is at (sides_here th E g.conds c.assume.new.self.goals.reducer g.left g.right c.args.self.now.state.now.budget c.normal_sides.new.budget
    c.normal_sides.result red c.normal_sides.ensures.exact) in
    let n : Sides = sides_with c.in-Ok.sides.left c.in-Ok.sides.right (plain_chain c.in-Ok.sides.chain) c.normal_sides.new.budget in
    some_account th c.args.self.now.search.now.gamma.now (conduct_with c.args.self.now.search.now.limits) (going (standing c.args.self.now.state.now) c.args.self.now.passed.now) g.conds n _ h c.in_ok-goal-in-Ok.goal c.in_ok-goal-in-Ok.ensures.conds c.in_ok-goal-in-Ok.ensures.left
    c.in_ok-goal-in-Ok.ensures.right c.normal_account.result c.normal_account.ensures.exact
