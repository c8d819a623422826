use Rattle.std.proofs.Common.{◌≡◌, ◌≤◌, ℕ, nat_eq, drop, length}
use Rattle.std.specs.List.{list_any}
use Rattle.circ_pairs.specs.Slots.{first_repeated}
use Rattle.circ_pairs.proofs.observing.first_again.Given as goal

abbrev pub invariant-loop-i : goal.invariant-loop-i
invariant-loop-i l =
    (l.i ≤ length l.numbers) × (l.found ≡ first_repeated (drop l.i l.numbers)) × ((n : ℕ) → list_any (nat_eq n) l.passed.keys ≡ list_any (nat_eq n) (drop l.i l.numbers))

abbrev pub decreases-loop-i : goal.decreases-loop-i
decreases-loop-i l = l.i
