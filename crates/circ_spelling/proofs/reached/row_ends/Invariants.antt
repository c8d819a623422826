use Rattle.std.proofs.Common.{ℕ, drop}
use Rattle.circ_spelling.specs.May.{MayRow}
use Rattle.circ_spelling.proofs.May.{Leads}
use Rattle.circ_spelling.proofs.reached.row_ends.Given as goal

abbrev pub invariant-loop-place : goal.invariant-loop-place
invariant-loop-place l = (j : ℕ) → MayRow l.tokens l.starts (drop l.first l.symbols) l.from j → Leads l.tokens l.starts (drop l.place l.symbols) l.from j l.reached
