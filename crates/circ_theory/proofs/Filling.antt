-- The variables of derivatives (circ_pairs).
pub use Rattle.circ_pairs.proofs.Filling.{holes_more, parameters_more, parameter_sorts_more, read_more, any_inserted, again}
