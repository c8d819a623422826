-- The variables that were gathered, as circ_pairs has them.
pub use Rattle.circ_pairs.specs.declared.renumber.Occurring.{Occurring}
pub use Rattle.circ_pairs.specs.Occurring.{variable_of}
