use Rattle.std.proofs.Common.{◌∙◌}
use Rattle.circ_statement.proofs.Holes.{last_piece}
use Rattle.circ_statement.proofs.spellings.ends_with_hole.Goals as goal

pub returns-in-len1-up : goal.returns-in-len1-up
returns-in-len1-up c = c.is_hole.ensures ∙ last_piece c.args.pieces.now c.last-item.result c.in-len1-up.len_at_least c.last-item.is
