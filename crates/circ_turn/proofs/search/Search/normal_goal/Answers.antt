use Rattle.std.proofs.Common.{◌∙◌}
use Rattle.circ_turn.proofs.Turning.{sides_here, reducing_is}
use Rattle.circ_turn.proofs.search.Search.normal_goal.Goals as goal

pub returns-in-Err-clause-exact : goal.returns-in-Err-clause-exact
returns-in-Err-clause-exact c = λ E r.
    let th = c.args.self.now.theory.now in
    let g = c.args.goal.now in
    let rules = c.assume.ensures.rules th E r in
    let red = reducing_is th E c.assume.new.self.goals.conds g.conds c.assume.new.self.goals.reducer rules.goals (c.in_ok-assume.ensures.conds ∙ c.as_slice.ensures) in
    rw c.in-Err.is at (sides_here th E g.conds c.assume.new.self.goals.reducer g.left g.right c.args.budget.now c.normal_sides.new.budget c.normal_sides.result red
    c.normal_sides.ensures.exact)

pub returns-in-Ok-clause-exact : goal.returns-in-Ok-clause-exact
returns-in-Ok-clause-exact c = λ E r.
    let th = c.args.self.now.theory.now in
    let g = c.args.goal.now in
    let rules = c.assume.ensures.rules th E r in
    let red = reducing_is th E c.assume.new.self.goals.conds g.conds c.assume.new.self.goals.reducer rules.goals (c.in_ok-assume.ensures.conds ∙ c.as_slice.ensures) in (
      c.in_ok-conds.ensures,
      rw c.in-Ok.is at (sides_here th E g.conds c.assume.new.self.goals.reducer g.left g.right c.args.budget.now c.normal_sides.new.budget
          c.normal_sides.result red c.normal_sides.ensures.exact),
    )
