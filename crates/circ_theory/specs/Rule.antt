-- Which equations are rewrite rules, as circ_pairs has it.
pub use Rattle.circ_pairs.specs.Rule.{is_bound, is_rule, is_conditional}
