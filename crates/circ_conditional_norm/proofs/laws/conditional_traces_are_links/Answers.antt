use Rattle.std.specs.Prelude.{◌-◌}
use Rattle.circ_conditional_norm.specs.Norm.{try_limit}
use Rattle.circ_conditional_norm.proofs.Linked.{norm_links}
use Rattle.circ_conditional_norm.proofs.laws.conditional_traces_are_links.Goals as goal

pub returns : goal.returns
returns c = λ setting ok rules all fine tries budget left t u traces w e. norm_links setting ok fine rules all (try_limit - tries) budget t u traces left w e
