use Rattle.std.proofs.Common.{◌≤◌, ◌<◌, ◌+◌, ℕ}
use Rattle.circ_spelling.specs.Ends.{Has}
use Rattle.circ_spelling.specs.Reads.{IsToken}
use Rattle.circ_spelling.proofs.reached.after_word.Given as goal

abbrev pub invariant-loop-place : goal.invariant-loop-place
invariant-loop-place l = (m : ℕ) → l.low ≤ m → m < l.place → Has l.reached m → IsToken l.tokens m l.word → Has l.out (m + 1)
