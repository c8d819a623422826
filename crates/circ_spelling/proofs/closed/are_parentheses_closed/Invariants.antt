use Rattle.std.proofs.Common.{◌<◌, ℕ}
use Rattle.circ_spelling.specs.Limits.{closing}
use Rattle.circ_spelling.specs.Reads.{IsToken}
use Rattle.circ_spelling.specs.May.{PairClosed}
use Rattle.circ_spelling.proofs.closed.are_parentheses_closed.Given as goal

abbrev pub invariant-loop-closed : goal.invariant-loop-closed
invariant-loop-closed l = (m : ℕ) → m < l.closed → IsToken l.tokens m closing → PairClosed l.starts l.place m
