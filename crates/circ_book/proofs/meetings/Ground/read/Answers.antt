use Rattle.std.proofs.Common.{sym, ◌∙◌}
use Rattle.circ_book.proofs.meetings.Ground.read.Goals as goal

pub read_by-requires-clause-terms : goal.read_by-requires-clause-terms
read_by-requires-clause-terms c = c.in_ok-work.ensures.table ∙ c.requires.lines ∙ sym c.requires.table
