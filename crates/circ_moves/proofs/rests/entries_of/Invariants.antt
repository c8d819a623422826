use Rattle.std.proofs.Common.{◌≡◌, ◌++◌, ◌∷◌, drop}
use Rattle.circ_moves.proofs.rests.entries_of.Given as goal

abbrev pub invariant-loop-term : goal.invariant-loop-term
invariant-loop-term l = l.entries.items ++ drop l.term-index l.both ≡ l.rest ∷ l.both
