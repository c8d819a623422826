use Rattle.std.proofs.Common.{◌≤◌, length}
use Rattle.circ_spelling.proofs.fill.filled.Given as goal

abbrev pub invariant-loop-place : goal.invariant-loop-place
invariant-loop-place l = l.place ≤ length l.tokens

abbrev pub decreases-loop-place : goal.decreases-loop-place
decreases-loop-place l = l.place
