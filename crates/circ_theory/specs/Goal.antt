-- Goals and equations, as circ_pairs has them.
pub use Rattle.circ_pairs.specs.declared.goals.Equation.{Equation}
pub use Rattle.circ_pairs.specs.declared.goals.Goal.{Goal}
pub use Rattle.circ_pairs.specs.Goal.{goal, sides, goal_of}
