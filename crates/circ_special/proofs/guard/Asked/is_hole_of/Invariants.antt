use Rattle.std.proofs.Common.{ℕ, ◌<◌, ◌≤◌, take, drop}
use Rattle.circ_special.specs.Occurrences.{IsHoleAt}
use Rattle.circ_special.proofs.guard.Asked.is_hole_of.Given as goal

abbrev pub invariant-loop-at : goal.invariant-loop-at
invariant-loop-at l = (k : ℕ) → l.first ≤ k → k < l.at → IsHoleAt l.self (take k l.path) (drop k l.path) l.body → ⊥
