-- Pairs of terms, as circ_pairs has them.
pub use Rattle.circ_pairs.specs.Pair.{Pair, pair_with, Within, instance_pair, pair_code, pairs_code}
