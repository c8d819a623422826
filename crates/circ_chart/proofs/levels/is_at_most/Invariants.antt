use Rattle.std.proofs.Common.{◌<◌, ◌≤◌, ℕ, get_or}
use Rattle.circ_spelling.specs.Reads.{IsToken}
use Rattle.circ_chart.proofs.levels.is_at_most.Given as goal

abbrev pub invariant-loop-place : goal.invariant-loop-place
invariant-loop-place l = (m : ℕ) → m < l.place → IsToken l.tokens m l.word → get_or l.levels m 0 ≤ l.prec
