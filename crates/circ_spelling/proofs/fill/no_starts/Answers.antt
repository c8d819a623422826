use Rattle.circ_spelling.proofs.May.{closed_none}
use Rattle.circ_spelling.proofs.fill.no_starts.Goals as goal

pub returns : goal.returns
returns c = λ g ts. closed_none g ts _ c.new.ensures.items
