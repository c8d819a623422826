use Rattle.std.proofs.Common.{◌<◌, ℕ}
use Rattle.circ_spelling.specs.May.{ClosedAt}
use Rattle.circ_spelling.proofs.closed.is_closed.Given as goal

abbrev pub invariant-loop-place : goal.invariant-loop-place
invariant-loop-place l = (i : ℕ) → i < l.place → ClosedAt l.grammar l.tokens l.starts i
