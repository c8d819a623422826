-- Variables that are numbered in order, by their sorts alone (circ_pairs).
pub use Rattle.circ_pairs.proofs.Numbering.{numbered_are, sorts-numbered, numbered-sorts, sorted_in_order, numbered-sorts_of, numbered-push, length-numbered, seen_in_before, seen_in_all_before, any_there, any_absent, seen_there, seen_next, out_of_order, length-seen_in, length-seen_in_all, seen_in_pairs_before, Checks, checks_seen}
