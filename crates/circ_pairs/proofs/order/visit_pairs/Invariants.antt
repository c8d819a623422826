use Rattle.std.proofs.Common.{◌≡◌, ◌≤◌, ◌^◌, length, map, drop}
use Rattle.circ_pairs.specs.Pairs.{plain_pair}
use Rattle.circ_pairs.specs.Variables.{seen_in_pairs, numbered}
use Rattle.circ_pairs.proofs.order.visit_pairs.Given as goal

abbrev pub invariant-loop-pair : goal.invariant-loop-pair
invariant-loop-pair l =
    (seen_in_pairs (map plain_pair (drop l.pair-index l.pairs)) (numbered 0 l.sorts.items) ≡ seen_in_pairs (map plain_pair l.pairs) (numbered 0 l.initial.sorts.items))
    × (length l.initial.sorts.items ≤ 2 ^ 32 → length l.sorts.items ≤ 2 ^ 32)
