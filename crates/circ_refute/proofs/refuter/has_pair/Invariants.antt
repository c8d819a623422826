use Rattle.std.proofs.Common.{◌≡◌, drop, map}
use Rattle.std.specs.List.{list_any}
use Rattle.circ_refute.specs.PlainRefutation.{is_pair}
use Rattle.circ_refute.specs.Plain.{pair_of}
use Rattle.circ_refute.proofs.refuter.has_pair.Given as goal

abbrev pub invariant-loop-pair : goal.invariant-loop-pair
invariant-loop-pair l = list_any (is_pair l.left l.right) (map pair_of (drop l.pair-index l.pairs)) ≡ list_any (is_pair l.left l.right) (map pair_of l.pairs)
