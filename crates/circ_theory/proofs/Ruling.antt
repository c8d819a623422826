-- Which variables of a goal's right side and conditions are in its left side (circ_pairs).
pub use Rattle.circ_pairs.proofs.Ruling.{all_seen, seen-occurrences, none_new, bound_by}
