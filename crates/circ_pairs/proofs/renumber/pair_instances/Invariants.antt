use Rattle.std.proofs.Common.{◌≡◌, ◌++◌, map, drop}
use Rattle.circ_term.specs.Subst.{substitution_of}
use Rattle.circ_pairs.specs.Pairs.{plain_pair}
use Rattle.circ_pairs.specs.Pair.{instance_pair}
use Rattle.circ_pairs.proofs.renumber.pair_instances.Given as goal

abbrev pub invariant-loop-pair : goal.invariant-loop-pair
invariant-loop-pair l =
    l.made ++ map (instance_pair (substitution_of l.subst)) (map plain_pair (drop l.pair-index l.pairs))
    ≡ map (instance_pair (substitution_of l.subst)) (map plain_pair l.pairs)
