use Rattle.std.proofs.Common.{◌≡◌, ◌∷◌, ◌^◌, ℕ, List, length}
use Rattle.circ_line.specs.Front.{Run, marked}
use Rattle.circ_line.proofs.fields.fill_entries.Given as goal

abbrev pub invariant-loop-entry : goal.invariant-loop-entry
invariant-loop-entry l = (xs : List ℕ) × (l.path.items ≡ l.first ∷ xs) × Run (marked 46 (2 ^ 16)) l.bytes xs l.rest

abbrev pub decreases-loop-entry : goal.decreases-loop-entry
decreases-loop-entry l = length l.rest
