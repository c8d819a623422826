use Rattle.std.proofs.Common.{Some, None, ◌∙◌}
use Rattle.circ_expand.proofs.Extending.{body_at}
use Rattle.circ_expand.proofs.goal_steps.body_of.Goals as goal

pub returns-in_default : goal.returns-in_default
returns-in_default c = c.var.ensures ∙ body_at c.args.frame.now.theory.now c.args.derivative None c.in_default.ensures

pub returns : goal.returns
returns c = c.in_ok-copy.ensures.same ∙ body_at c.args.frame.now.theory.now c.args.derivative (Some c.in-Some.body.now) c.in-Some.ensures
