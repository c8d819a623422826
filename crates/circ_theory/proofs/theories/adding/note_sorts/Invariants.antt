use Rattle.std.proofs.Common.{◌≡◌, ◌||◌, ℕ, true, nat_eq, map, drop}
use Rattle.std.specs.List.{list_any}
use Rattle.circ_pairs.specs.Pairs.{plain_pair}
use Rattle.circ_pairs.specs.Pair.{has_condition_of}
use Rattle.circ_theory.proofs.theories.adding.note_sorts.Given as goal

abbrev pub invariant-loop-pair : goal.invariant-loop-pair
invariant-loop-pair l =
    ((s : ℕ) → list_any (nat_eq s) l.initial.kept.keys ≡ true → list_any (nat_eq s) l.kept.keys ≡ true)
    × ((s : ℕ) → has_condition_of s (map plain_pair l.conds) ≡ true → (list_any (nat_eq s) l.kept.keys || has_condition_of s (map plain_pair (drop l.pair-index l.conds))) ≡ true)
