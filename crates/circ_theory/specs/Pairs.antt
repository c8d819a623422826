-- What contracts see of pairs, as circ_pairs has it.
pub use Rattle.circ_pairs.specs.declared.pairs.Pair.{Pair as PairOfTerms}
pub use Rattle.circ_pairs.specs.Pairs.{plain_pair}
