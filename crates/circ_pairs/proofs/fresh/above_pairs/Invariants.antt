use Rattle.std.proofs.Common.{◌≡◌, ◌≤◌, ◌^◌, max, map, drop}
use Rattle.circ_pairs.specs.Pairs.{plain_pair}
use Rattle.circ_pairs.specs.Fresh.{above_pairs}
use Rattle.circ_pairs.proofs.fresh.above_pairs.Given as goal

abbrev pub invariant-loop-pair : goal.invariant-loop-pair
invariant-loop-pair l = (max l.most (above_pairs (map plain_pair (drop l.pair-index l.pairs))) ≡ above_pairs (map plain_pair l.pairs)) × (l.most ≤ 2 ^ 32)
