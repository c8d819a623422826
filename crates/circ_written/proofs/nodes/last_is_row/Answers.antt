use Rattle.std.proofs.Common.{◌∙◌}
use Rattle.circ_written.proofs.Ropes.{last_kind}
use Rattle.circ_written.proofs.nodes.last_is_row.Goals as goal

pub returns-in-Some : goal.returns-in-Some
returns-in-Some c = c.kind_at.ensures ∙ last_kind c.args.nodes.now c.args.stack.now c.in-Some.number.now c.in-Some.ensures.value
