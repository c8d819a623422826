use Rattle.std.proofs.Common.{◌<◌, ◌+◌, ℕ}
use Rattle.circ_spelling.specs.Ends.{Has, ends_at}
use Rattle.circ_spelling.proofs.closed.is_pair_closed.Given as goal

abbrev pub invariant-loop-sort : goal.invariant-loop-sort
invariant-loop-sort l = (s : ℕ) → s < l.sort → Has (ends_at l.starts s (l.opened + 1)) l.closed → Has (ends_at l.starts s l.opened) (l.closed + 1)
