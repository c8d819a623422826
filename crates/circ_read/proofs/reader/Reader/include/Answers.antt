use Rattle.std.proofs.Common.{sym}
use Rattle.circ_read.specs.Includes.{again, text_named}
use Rattle.circ_read.specs.RefusesIn.{unknown}
use Rattle.circ_read.proofs.reader.Reader.include.Goals as goal

pub returns-in-None : goal.returns-in-None
unfolding text_named
returns-in-None c = rw c.because.ensures (unknown (sym c.if-is_included.ensures) (sym c.in-None.ensures))

pub returns-then-is_included : goal.returns-then-is_included
returns-then-is_included c = again (sym c.if-is_included.ensures)

pub include_text-requires-clause-text : goal.include_text-requires-clause-text
unfolding text_named
include_text-requires-clause-text c = sym c.in-Some.ensures
