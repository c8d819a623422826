-- What contracts see of pairs.
use Rattle.circ_pairs.specs.Pair.{Pair, pair_with}
use Rattle.circ_pairs.specs.declared.pairs.Pair.{Pair as PairOfTerms}

abbrev pub plain_pair : PairOfTerms → Pair
plain_pair p = pair_with p.left p.right
