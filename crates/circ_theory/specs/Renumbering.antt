-- A goal with its variables numbered anew, as circ_pairs has it.
pub use Rattle.circ_pairs.specs.Renumbering.{renumbering, instance_goal, renumbered, Renumbers}
