use Rattle.std.proofs.Common.{◌∙◌}
use Rattle.circ_check.proofs.Named.{pattern_seen}
use Rattle.circ_check.proofs.naming.own_goal.Goals as goal

pub returns-clause-same : goal.returns-clause-same
returns-clause-same c =
    pattern_seen c.args.nodes.now c.pattern.new.nodes c.pattern.ensures.grows c.args.goal.now c.requires c.pattern.result c.in_ok-conds.conds.items
    (c.in_ok-conds.ensures.items ∙ c.as_slice.ensures.value) c.pattern.ensures.conditions c.pattern.ensures.sides
