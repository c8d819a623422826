use Rattle.std.proofs.Common.{◌<◌, ℕ}
use Rattle.circ_spelling.specs.Ends.{Has, Keeps, ends_at}
use Rattle.circ_spelling.proofs.closed.is_hole_closed.Given as goal

abbrev pub invariant-loop-from : goal.invariant-loop-from
invariant-loop-from l = (i : ℕ) → i < l.from → Has (ends_at l.starts l.hole i) l.place → Keeps l.ends (ends_at l.starts l.sort i)
