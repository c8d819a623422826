use Rattle.std.specs.Prelude.{◌-◌}
use Rattle.circ_conditional_norm.specs.Norm.{try_limit}
use Rattle.circ_conditional_norm.proofs.Before.{norm_before}
use Rattle.circ_conditional_norm.proofs.laws.without_conditions_as_before.Goals as goal

pub returns : goal.returns
returns c = λ sig rules assumptions tries k t all. norm_before sig rules all assumptions (try_limit - tries) k t
