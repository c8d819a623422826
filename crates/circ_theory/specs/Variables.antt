-- The variables of terms, pairs and goals, as circ_pairs has them.
pub use Rattle.circ_pairs.specs.Variables.{Variable, is_variable, seen, seen_in, seen_in_all, seen_in_pairs, variables_of, occurrences, all_occurrences, pair_occurrences, AreNumberedFrom, IsInOrder, is_before, put_in_order, sorted, FitVariables, given, sorts_of, numbered}
