use Rattle.std.proofs.Common.{◌≤◌, ◌<◌, ℕ}
use Rattle.circ_spelling.specs.Ends.{Has, Keeps, ends_at}
use Rattle.circ_spelling.proofs.reached.after_hole.Given as goal

abbrev pub invariant-loop-place : goal.invariant-loop-place
invariant-loop-place l = (m : ℕ) → l.low ≤ m → m < l.place → Has l.reached m → Keeps (ends_at l.starts l.sort m) l.out
