use Rattle.std.proofs.Common.{◌≤◌, ◌-◌, ℕ, length, drop}
use Rattle.circ_spelling.specs.May.{MayRow}
use Rattle.circ_spelling.proofs.reached.front_at.Given as goal

abbrev pub invariant-loop-word : goal.invariant-loop-word
invariant-loop-word l = record {
  low : l.from ≤ l.here;
  inside : l.place ≤ length l.symbols;
  rest : (j : ℕ) → MayRow l.tokens l.starts (drop l.first l.symbols) l.from j → MayRow l.tokens l.starts (drop l.place l.symbols) l.here j;
}

abbrev pub decreases-loop-word : goal.decreases-loop-word
decreases-loop-word l = length l.symbols - l.place
