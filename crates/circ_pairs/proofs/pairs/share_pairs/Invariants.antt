use Rattle.std.proofs.Common.{◌≡◌, ◌++◌, map, drop}
use Rattle.circ_pairs.specs.Pairs.{plain_pair}
use Rattle.circ_pairs.proofs.pairs.share_pairs.Given as goal

abbrev pub invariant-loop-pair : goal.invariant-loop-pair
invariant-loop-pair l = map plain_pair l.made.items ++ map plain_pair (drop l.pair-index l.pairs) ≡ map plain_pair l.pairs
