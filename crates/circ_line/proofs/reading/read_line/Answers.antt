use Rattle.std.proofs.Common.{rules}
use Rattle.circ_line.proofs.OneText.{reads}
use Rattle.circ_line.proofs.reading.read_line.Goals as goal

pub returns : goal.returns
returns c = search (rules, reads)
