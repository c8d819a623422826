use Rattle.std.proofs.Common.{ℕ, ◌<◌}
use Rattle.circ_special.specs.Occurrences.{IsObservedBy}
use Rattle.circ_special.proofs.guard.Asked.is_observed.Given as goal

abbrev pub invariant-loop-number : goal.invariant-loop-number
invariant-loop-number l = (k : ℕ) → k < l.number → IsObservedBy l.self l.path k → ⊥
