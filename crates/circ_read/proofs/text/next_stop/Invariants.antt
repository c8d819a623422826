use Rattle.std.proofs.Common.{slice_range}
use Rattle.circ_lexer.specs.TokenList.{tokens_of}
use Rattle.circ_read.specs.Text.{HasNoStop}
use Rattle.circ_read.proofs.text.next_stop.Given as goal

abbrev pub invariant-loop-n : goal.invariant-loop-n
invariant-loop-n l = HasNoStop (slice_range (tokens_of l.tokens) l.fn.at l.n)
